-- Batches that are one run, those that were there and those taken: the number behind them, and one batch more.
use Rattle.std.proofs.Common.{◌≡◌, inl, inr, ℕ, ◌+◌, ◌-◌, ◌<◌, ◌≤◌, List, [], ◌∷◌, ◌++◌, length, take, get_or, Some, None, refl, sym, ap, ◌∙◌, subst, arith, append_assoc, append-nil}
use Rattle.std.specs.Prelude.{slice_get}
use Rattle.std.proofs.lemmas.List.{nil_from_length, take_all, take_more}
use Rattle.std.proofs.lemmas.Option.{get_or_from_slice_get, slice_get_cases, slice_get_within}
use Rattle.batch_repr.specs.declared.batch.Batch.{Batch}
use Rattle.batch_repr.specs.declared.limits.TheConstants.{NUMBER_FIRST, NUMBER_MAX}
use Rattle.batch_repr.specs.Batches.{count_of, end_of, end_after, IsContiguous}
use Rattle.batch_repr.specs.Building.{HasSpelling}
use Rattle.batch_repr.specs.Spelling.{SpellsBatch}
use Rattle.batch_repr.proofs.Laws.{contiguous_push, end_push, has_spelling}
use Rattle.std.proofs.lemmas.List.Elements.{All-nil, All-push}
use Rattle.wal_ship.specs.Following.{next_after}
use Rattle.wal_ship.specs.Taking.{AreOneRun, IsTakenRun}

-- the number behind batches is that behind the last of them
pub end_of_last : (from : ℕ) (batches : List Batch) (batch : Batch) → slice_get batches (length batches - 1) ≡ Some batch
    → end_after from batches ≡ end_of batch
end_of_last from batches batch e =
    let i : ℕ = length batches - 1 in
    let lt : i < length batches = slice_get_within batches i batch e in
    let whole : batches ≡ take i batches ++ batch ∷ [] = sym (take_all (i + 1) batches (omega (arith, lt))) ∙ take_more batches i batch lt
    ∙ ap (λ (b : Batch). take i batches ++ b ∷ []) (get_or_from_slice_get batches i batch batch e) in
    ap (end_after from) whole ∙ end_push from (take i batches) batch

pub none_is_last : (batches : List Batch) → slice_get batches (length batches - 1) ≡ None → batches ≡ []
none_is_last batches e = elim (slice_get_cases batches (length batches - 1)).1 [
  | inl some ↦ let both : Some some.0 ≡ None = sym some.2 ∙ e in absurd cc
  | inr past ↦ nil_from_length batches (omega (arith, past.0))
]

pub end_of_none : (from : ℕ) (batches : List Batch) → batches ≡ [] → end_after from batches ≡ from
unfolding end_after
end_of_none from batches e = ap (end_after from) e

-- nothing is taken yet
pub run_none : (local : List Batch) (next : ℕ) → IsContiguous NUMBER_FIRST local → next ≡ next_after local → next ≤ NUMBER_MAX → AreOneRun local [] next
run_none local next contiguous is within = record {
  contiguous = subst (IsContiguous NUMBER_FIRST) (sym (append-nil local)) contiguous;
  next_is = is ∙ ap next_after (sym (append-nil local));
  within = within;
}

-- one batch more
pub run_push : (local taken : List Batch) (next : ℕ) (batch : Batch) → AreOneRun local taken next → 0 < count_of batch.entries
    → batch.first ≡ next_after (local ++ taken) → end_of batch ≤ NUMBER_MAX → AreOneRun local (taken ++ batch ∷ []) (end_of batch)
run_push local taken next batch run some first within =
    let parts : (local ++ taken) ++ batch ∷ [] ≡ local ++ (taken ++ batch ∷ []) = append_assoc local taken (batch ∷ []) in
    record {
      contiguous = subst (IsContiguous NUMBER_FIRST) parts (contiguous_push NUMBER_FIRST (local ++ taken) batch run.contiguous first some);
      next_is = sym (end_push NUMBER_FIRST (local ++ taken) batch) ∙ ap next_after parts;
      within = within;
    }

-- the same of batches that have a spelling
pub taken_run_none : (local : List Batch) (next : ℕ) → IsContiguous NUMBER_FIRST local → next ≡ next_after local → next ≤ NUMBER_MAX
    → IsTakenRun local [] next
taken_run_none local next contiguous is within = record { run = run_none local next contiguous is within; spelled = All-nil HasSpelling }

pub taken_run_push : (local taken : List Batch) (next : ℕ) (text : List ℕ) (batch : Batch) → IsTakenRun local taken next
    → 0 < count_of batch.entries → batch.first ≡ next_after (local ++ taken) → SpellsBatch text batch
    → IsTakenRun local (taken ++ batch ∷ []) (end_of batch)
taken_run_push local taken next text batch t some first spells = record {
  run = run_push local taken next batch t.run some first spells.numbers;
  spelled = All-push HasSpelling taken batch t.spelled ((has_spelling batch).1 (text, spells));
}

-- ---- a list that is looked at from its front on

pub run_start : AreOneRun [] [] NUMBER_FIRST
unfolding IsContiguous end_after
run_start = record { contiguous = tt; next_is = refl; within = omega arith }

pub run_more : (batches : List Batch) (i next : ℕ) (batch : Batch) → i < length batches → batch ≡ get_or batches i batch
    → AreOneRun [] (take i batches) next → batch.first ≡ next → 0 < count_of batch.entries → end_of batch ≤ NUMBER_MAX
    → AreOneRun [] (take (i + 1) batches) (end_of batch)
run_more batches i next batch below is run first some within =
    subst (λ (front : List Batch). AreOneRun [] front (end_of batch))
    (ap (λ (b : Batch). take i batches ++ b ∷ []) is ∙ sym (take_more batches i batch below))
    (run_push [] (take i batches) next batch run some (first ∙ run.next_is) within)

pub run_all : (batches : List Batch) (i next : ℕ) → length batches ≤ i → AreOneRun [] (take i batches) next → AreOneRun [] batches next
run_all batches i next all run = subst (λ (front : List Batch). AreOneRun [] front next) (take_all i batches all) run
