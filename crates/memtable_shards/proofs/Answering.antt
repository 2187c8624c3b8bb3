-- What one of the eight shards answers below the end of some batches is the answer after those batches.
use Rattle.std.proofs.Common.{◌≡◌, inl, inr, ℕ, ◌≤◌, ◌<◌, Bool, true, false, List, [], ◌∷◌, ◌++◌, length, take, drop, Option, Some, None, refl, sym, ap, ◌∙◌, subst, arith, append_assoc}
use Rattle.std.specs.Prelude.{Contains, nat_lt, slice_get, filter, option_and_then}
use Rattle.std.specs.List.{last_or}
use Rattle.std.proofs.lemmas.Bool.Decides.{nat_tests}
use Rattle.std.proofs.lemmas.List.{take-append-drop, take_all}
use Rattle.std.proofs.lemmas.List.Elements.{Contains-append_left, Contains-append_cases}
use Rattle.batch_repr.specs.declared.batch.Batch.{Batch}
use Rattle.batch_repr.specs.Batches.{IsContiguous, end_after, entries_in, answer, value_left, is_about}
use Rattle.wal_base.specs.declared.entry.Entry.{Entry}
use Rattle.wal_base.specs.declared.entry.Entry.TheVariants.{Set, Delete, Note, RangeDelete}
use Rattle.std.proofs.lemmas.Bool.{eq-eqb}
use Rattle.std.proofs.lemmas.Slice.Eq.{bytes_eq-Decides}
use Rattle.memtable_shards.specs.declared.sharding.TheConstants.{SHARDS}
use Rattle.memtable_shards.specs.Versions.{is_in, IsIn}
use Rattle.batch_repr.proofs.Laws.{contiguous_back, contiguous_front}
use Rattle.memtable_shards.specs.Versions.{Version}
use Rattle.memtable_shards.specs.Versions.{versions_of, versions_in, shard_of, HaveBelow, AreShardsOf}
use Rattle.arena_list.specs.declared.found.Found.{Found}
use Rattle.arena_list.specs.declared.found.Found.TheVariants.{Nothing, Gone, Value}
use Rattle.memtable_shards.specs.Newest.{IsAbout, HasNoneBelow, Told, told, TellsNewest, FindsNewest, value_found}
use Rattle.memtable_shards.proofs.Numbers.{number_within}
use Rattle.memtable_shards.proofs.Reading.{answer_read, version_of, value_of}

pub versions_in-append : (xs ys : List Batch) → versions_in (xs ++ ys) ≡ versions_in xs ++ versions_in ys
versions_in-append [] ys = refl
versions_in-append (x ∷ xs) ys = ap (λ (t : List Version). versions_of x ++ t) (versions_in-append xs ys)
    ∙ sym (append_assoc (versions_of x) (versions_in xs) (versions_in ys))

contiguous_take : (from n : ℕ) (batches : List Batch) → IsContiguous from batches → IsContiguous from (take n batches)
contiguous_take from n batches h = contiguous_front from (take n batches) (drop n batches) (subst (IsContiguous from) (sym (take-append-drop n batches)) h)

contiguous_drop : (from n : ℕ) (batches : List Batch) → IsContiguous from batches → IsContiguous (end_after from (take n batches)) (drop n batches)
contiguous_drop from n batches h = contiguous_back from (take n batches) (drop n batches) (subst (IsContiguous from) (sym (take-append-drop n batches)) h)

not_before : (from : ℕ) (batches : List Batch) (v : Version) → IsContiguous from batches → Contains (versions_in batches) v → from ≤ v.number
not_before from batches v numbered h = (number_within from (entries_in batches) v (version_of from batches v numbered h).stands).0

-- the versions of the first batches are those below their end
in_front : (from n : ℕ) (batches : List Batch) (v : Version) → IsContiguous from batches → Contains (versions_in batches) v
    → v.number < end_after from (take n batches) → Contains (versions_in (take n batches)) v
in_front from n batches v numbered h below = elim (Contains-append_cases (versions_in (take n batches)) (versions_in (drop n batches)) v split) [
  | inl front ↦ front
  | inr back ↦ absurd (omega (arith, below, not_before (end_after from (take n batches)) (drop n batches) v (contiguous_drop from n batches numbered) back))
]
  where
    split : Contains (versions_in (take n batches) ++ versions_in (drop n batches)) v
    split = subst (λ (vs : List Version). Contains vs v) (versions_in-append (take n batches) (drop n batches))
        (subst (λ (bs : List Batch). Contains (versions_in bs) v) (sym (take-append-drop n batches)) h)

from_front : (n : ℕ) (batches : List Batch) (v : Version) → Contains (versions_in (take n batches)) v → Contains (versions_in batches) v
from_front n batches v h = subst (λ (bs : List Batch). Contains (versions_in bs) v) (take-append-drop n batches)
    (subst (λ (vs : List Version). Contains vs v) (sym (versions_in-append (take n batches) (drop n batches)))
    (Contains-append_left (versions_in (take n batches)) (versions_in (drop n batches)) v h))

-- What is read below the end of the first batches is the answer after them.
answer_front : (from n : ℕ) (batches : List Batch) (key : List ℕ) (found : Option Told) → IsContiguous from batches
    → TellsNewest (versions_in batches) key (end_after from (take n batches)) found → value_of found ≡ answer batches n key
unfolding answer
answer_front from n batches key found numbered read = answer_read from (take n batches) key found (contiguous_take from n batches numbered) (go found read)
    ∙ same
  where
    go : (found : Option Told) → TellsNewest (versions_in batches) key (end_after from (take n batches)) found
        → TellsNewest (versions_in (take n batches)) key (end_after from (take n batches)) found
    go None without = λ v h about. without v (from_front n batches v h) about
    go (Some it) is = (
      is.0,
      record {
        stands = in_front from n batches is.0 numbered is.1.stands is.1.under;
        about = is.1.about;
        under = is.1.under;
        last = λ other h same below. is.1.last
            other (from_front n batches other h) same below;
      },
      is.2,
    )

    same : answer (take n batches) (length (take n batches)) key ≡ answer batches n key
    same = ap (λ (bs : List Batch). option_and_then value_left (last_or None (filter (is_about key) (entries_in bs))))
        (take_all (length (take n batches)) (take n batches) (omega arith))

told_value : (found : Found) → value_found found ≡ value_of (told found)
told_value Nothing = refl
told_value (Gone seq) = refl
told_value (Value seq bytes) = refl

-- what is about a key belongs to its shard
pub about_in : (v : Version) (key : List ℕ) → IsAbout v key → IsIn v (shard_of key)
about_in v key about = go v.entry about
  where
    go : (entry : Entry) → is_about key entry ≡ true → is_in (shard_of key) entry ≡ true
    go (Set k value) is = eq-eqb (shard_of k) (shard_of key) (ap shard_of ((bytes_eq-Decides k key).0 is))
    go (Delete k) is = eq-eqb (shard_of k) (shard_of key) (ap shard_of ((bytes_eq-Decides k key).0 is))
    go (Note bytes) is = absurd cc
    go (RangeDelete start end) is = let low : shard_of key < SHARDS = omega arith in grind (arith, nat_tests, low)

-- The shard of a key answers as all shards would, whatever it has from that end on.
pub shard_answers_below : (from n : ℕ) (batches : List Batch) (shard : List Version) (key : List ℕ) (found : Found) → IsContiguous from batches
    → HaveBelow (end_after from (take n batches)) batches (shard_of key) shard
    → FindsNewest shard key (end_after from (take n batches)) found → value_found found ≡ answer batches n key
shard_answers_below from n batches shard key found numbered have read =
    told_value found ∙ answer_front from n batches key (told found) numbered (go (told found) read)
  where
    end : ℕ
    end = end_after from (take n batches)

    to_shard : (v : Version) → v.number < end → Contains (versions_in batches) v → IsAbout v key → Contains shard v
    to_shard v below h about = (have v below).1 (h, about_in v key about)

    none_below : HasNoneBelow shard key end → (v : Version) → Contains (versions_in batches) v → IsAbout v key → (b : Bool) → nat_lt v.number end ≡ b
        → end ≤ v.number
    none_below without v h about true e = without v (to_shard v (grind (arith, nat_tests, e)) h about) about
    none_below without v h about false e = grind (arith, nat_tests, e)

    go : (found : Option Told) → TellsNewest shard key end found → TellsNewest (versions_in batches) key end found
    go None without = λ v h about. none_below without v h about (nat_lt v.number end) refl
    go (Some it) is = (
      is.0,
      record {
        stands = ((have is.0 is.1.under).0 is.1.stands).0;
        about = is.1.about;
        under = is.1.under;
        last = λ other h same below. is.1.last other (to_shard other below h same) same below;
      },
      is.2,
    )

-- the same where it has just the versions of the batches
pub shard_answers : (from n : ℕ) (batches : List Batch) (shards : List (List Version)) (shard : List Version) (key : List ℕ) (found : Found)
    → IsContiguous from batches → AreShardsOf shards batches → slice_get shards (shard_of key) ≡ Some shard
    → FindsNewest shard key (end_after from (take n batches)) found → value_found found ≡ answer batches n key
shard_answers from n batches shards shard key found numbered are here read =
    shard_answers_below from n batches shard key found numbered (λ v below. are.own (shard_of key) shard here v) read

-- the same after all batches
pub shard_answers_all : (from : ℕ) (batches : List Batch) (shards : List (List Version)) (shard : List Version) (key : List ℕ) (found : Found)
    → IsContiguous from batches → AreShardsOf shards batches → slice_get shards (shard_of key) ≡ Some shard
    → FindsNewest shard key (end_after from batches) found → value_found found ≡ answer batches (length batches) key
shard_answers_all from batches shards shard key found numbered are here read =
    shard_answers from (length batches) batches shards shard key found numbered are here
    (subst (λ (bs : List Batch). FindsNewest shard key (end_after from bs) found) (sym (take_all (length batches) batches (omega arith))) read)
