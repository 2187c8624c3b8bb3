-- Batches that stand before: they are numbered, a merge that accepts gaps accepts them, and with none of them nothing is said more.
use Rattle.std.proofs.Common.{◌≡◌, ℕ, ◌≤◌, List, [], ◌∷◌, ◌++◌, All, get_or, inl, inr, sym, subst, ap, ◌∙◌, refl, arith}
use Rattle.std.specs.Prelude.{Contains}
use Rattle.std.proofs.lemmas.List.{append-nil}
use Rattle.std.proofs.lemmas.List.Elements.{All-cons, All-nil, Contains-get_or}
use Rattle.batch_repr.specs.declared.batch.Batch.{Batch}
use Rattle.batch_repr.specs.declared.limits.TheConstants.{NUMBER_FIRST, NUMBER_MAX}
use Rattle.batch_repr.specs.Batches.{end_of, end_after, IsContiguous}
use Rattle.batch_repr.proofs.Laws.{place_within, contiguous_append, end_append}
use Rattle.segment_merge.specs.Rows.{IsNumbered, IsNumberedSegment}
use Rattle.segment_merge.specs.Merging.{AscendByNumber}
use Rattle.segment_merge.specs.Lenient.{MergedLenient, AreMergedOf}
use Rattle.segment_merge.proofs.Laws.{none_within, within_cases}
use Rattle.disk_face.specs.View.{Dirs}
use Rattle.wal_recovery.specs.declared.reports.Mode.{Mode}
use Rattle.wal_recovery.specs.declared.reports.Mode.TheVariants.{Strict, Lenient}
use Rattle.wal_recovery.specs.Base.{IsBaseOf, front_of, GoesOnFrom}
use Rattle.wal_recovery.specs.Answers.{RecoversBy, RecoversByFrom, IsRefusedBy, IsRefusedByFrom}

-- ---- its numbers

pub base_numbered : (number : ℕ) (base : List Batch) → number ≤ NUMBER_MAX → IsBaseOf number base → All IsNumbered base
base_numbered number base low is i d lt =
    let at = place_within is.from base (get_or base i d) is.contiguous (Contains-get_or base i d lt) in
    record { some = omega (arith, at.some); within = omega (arith, at.high, is.ends, low) }

-- the number after it is the one that it ends before, from wherever it is counted
pub base_ends : (number : ℕ) (base : List Batch) → IsBaseOf number base → end_after number base ≡ number
unfolding end_after
base_ends number [] is = refl
base_ends number (batch ∷ base) is = is.ends

-- batches behind it
pub ends_behind : (number : ℕ) (base merged : List Batch) → IsBaseOf number base → end_after number (base ++ merged) ≡ end_after number merged
ends_behind number base merged is = end_append number base merged ∙ ap (λ (n : ℕ). end_after n merged) (base_ends number base is)

-- it goes on with batches that are numbered from there on
pub base_goes_on : (number : ℕ) (base batches : List Batch) → IsBaseOf number base → GoesOnFrom number base batches
    → IsBaseOf (end_after number batches) batches
base_goes_on number base batches is goes = record {
  from = is.from;
  contiguous = subst (IsContiguous is.from) (sym goes.behind)
      (contiguous_append is.from base goes.merged is.contiguous (subst (λ (n : ℕ). IsContiguous n goes.merged) (sym is.ends) goes.contiguous));
  ends =
      ap (end_after is.from) goes.behind ∙ end_append is.from base goes.merged ∙ ap (λ (n : ℕ). end_after n goes.merged) is.ends
      ∙ sym (ap (end_after number) goes.behind ∙ ends_behind number base goes.merged is);
}

-- and their first number is that of the base
pub goes_on_first : (number : ℕ) (base batches : List Batch) (is : IsBaseOf number base) (goes : GoesOnFrom number base batches)
    → (base_goes_on number base batches is goes).from ≡ is.from
unfolding base_goes_on
goes_on_first number base batches is goes = refl

-- ---- a merge that accepts gaps

ascend_from : (from low : ℕ) (base : List Batch) → low ≤ from → IsContiguous from base → AscendByNumber low base
unfolding IsContiguous AscendByNumber
ascend_from from low [] le c = tt
ascend_from from low (b ∷ base) le (at, some, rest) = (omega (arith, le, at), some, ascend_from (end_of b) (end_of b) base (omega arith) rest)

begins_past : (from : ℕ) (before : List Batch) (batch : Batch) (after : List Batch)
    → AscendByNumber from (before ++ batch ∷ after) → from ≤ batch.first
unfolding AscendByNumber
begins_past from [] batch after a = a.0
begins_past from (b ∷ before) batch after a = omega (arith, a.0, begins_past (end_of b) before batch after a.2)

is_past : (from : ℕ) (before : List Batch) (batch : Batch) (after : List Batch) → AscendByNumber from (before ++ batch ∷ after)
    → (earlier : Batch) → Contains before earlier → end_of earlier ≤ batch.first
unfolding AscendByNumber
is_past from [] batch after a earlier h = absurd (none_within earlier h)
is_past from (b ∷ before) batch after a earlier h = elim (within_cases b before earlier h) [
  | inl e ↦ subst (λ (x : Batch). end_of x ≤ batch.first) e (begins_past (end_of b) before batch after a.2)
  | inr later ↦ is_past (end_of b) before batch after a.2 earlier later
]

-- a base alone is its own merge
alone_merged : (base : List Batch) → AscendByNumber 0 base → MergedLenient (base ∷ []) base
alone_merged base a = record {
  ascending = a;
  same = λ batch. (
    λ h. subst (λ (l : List Batch). Contains l batch) (sym (append-nil base)) h,
    λ h. subst (λ (l : List Batch). Contains l batch) (append-nil base) h,
  );
  accepted = λ before batch after cut. inr (is_past 0 before batch after (subst (AscendByNumber 0) (sym (append-nil base) ∙ cut) a));
}

pub base_ascends : (number : ℕ) (base : List Batch) → IsBaseOf number base → AscendByNumber 0 base
base_ascends number base is = ascend_from is.from 0 base (omega arith) is.contiguous

pub base_alone : (number : ℕ) (base : List Batch) → IsBaseOf number base → MergedLenient (base ∷ []) base
base_alone number base is = alone_merged base (base_ascends number base is)

pub front_merged : (number : ℕ) (base : List Batch) → IsBaseOf number base → AreMergedOf (front_of base) base
unfolding AscendByNumber
front_merged number [] is = record { ascending = tt; same = λ batch. (λ h. h, λ h. h); accepted = (base_alone number [] is).accepted }
front_merged number (b ∷ base) is = base_alone number (b ∷ base) is

pub front_numbered : (base : List Batch) → All IsNumbered base → All IsNumberedSegment (front_of base)
front_numbered [] all = All-nil IsNumberedSegment
front_numbered (b ∷ base) all = All-cons IsNumberedSegment (record { index = 0; batches = b ∷ base }) [] all (All-nil IsNumberedSegment)

-- ---- no base

module _ (mode : Mode) (base : List Batch) (none : base ≡ []) (dirs : Dirs) where
  pub onto_none : (batches : List Batch) → RecoversBy mode dirs batches → RecoversByFrom mode NUMBER_FIRST base dirs batches
  onto_none batches h = subst (λ (l : List Batch). RecoversByFrom mode NUMBER_FIRST l dirs batches) (sym none) (onto mode h)
    where
      onto : (mode : Mode) → RecoversBy mode dirs batches → RecoversByFrom mode NUMBER_FIRST [] dirs batches
      onto Strict h = record { merged = batches; recovers = h; behind = refl }
      onto Lenient h = h

  pub none_onto : (batches : List Batch) → RecoversByFrom mode NUMBER_FIRST base dirs batches → RecoversBy mode dirs batches
  none_onto batches h = from mode (subst (λ (l : List Batch). RecoversByFrom mode NUMBER_FIRST l dirs batches) none h)
    where
      from : (mode : Mode) → RecoversByFrom mode NUMBER_FIRST [] dirs batches → RecoversBy mode dirs batches
      from Strict h = subst (RecoversBy Strict dirs) (sym h.behind) h.recovers
      from Lenient h = h

  -- the reasons are the same
  pub one_refused : IsRefusedByFrom mode NUMBER_FIRST base dirs ≡ IsRefusedBy mode dirs
  one_refused = ap (λ (l : List Batch). IsRefusedByFrom mode NUMBER_FIRST l dirs) none ∙ same mode
    where
      same : (mode : Mode) → IsRefusedByFrom mode NUMBER_FIRST [] dirs ≡ IsRefusedBy mode dirs
      same Strict = refl
      same Lenient = refl

pub contiguous_none : (first : ℕ) (base batches : List Batch) → base ≡ [] → GoesOnFrom first base batches → IsContiguous first batches
contiguous_none first base batches none h =
    subst (IsContiguous first) (sym (h.behind ∙ ap (λ (l : List Batch). l ++ h.merged) none)) h.contiguous

pub no_base : (number : ℕ) (base : List Batch) → base ≡ [] → IsBaseOf number base
unfolding IsContiguous end_after
no_base number base none = subst (IsBaseOf number) (sym none) (record { from = number; contiguous = tt; ends = refl })
