-- The newest version of a key is the one that the last entry about it left.
use Rattle.std.proofs.Common.{◌≡◌, inl, inr, ℕ, ◌+◌, ◌≤◌, ◌<◌, Bool, true, false, cond, List, [], ◌∷◌, length, Option, Some, None, refl, sym, ap, ◌∙◌, subst, arith}
use Rattle.std.specs.Prelude.{Contains, filter, option_and_then}
use Rattle.std.specs.List.{last_or}
use Rattle.std.proofs.lemmas.List.{take_all}
use Rattle.wal_base.specs.declared.entry.Entry.{Entry}
use Rattle.wal_base.specs.declared.entry.Entry.TheVariants.{Set, Delete, Note, RangeDelete}
use Rattle.batch_repr.specs.declared.batch.Batch.{Batch}
use Rattle.batch_repr.specs.Batches.{is_counted, is_about, value_left, IsContiguous, end_after, entries_in, answer}
use Rattle.memtable_shards.specs.Versions.{Version}
use Rattle.memtable_shards.specs.Versions.{versions_from, versions_in}
use Rattle.memtable_shards.specs.Newest.{IsAbout, Told, TellsNewest}
use Rattle.wal_base.proofs.Laws.{none_within, within_head, within_tail, within_cases}
use Rattle.memtable_shards.proofs.Numbers.{versions_together, end_together, number_within, one_number}

-- what the last entry about a key, or else another one, comes to among the versions
data Comes (key : List ℕ) (versions : List Version) (before found : Option Entry) : Type 0 where
  as_before : found ≡ before → ((v : Version) → Contains versions v → IsAbout v key → ⊥) → Comes key versions before found
  by_version : (v : Version) → Contains versions v → IsAbout v key
      → ((other : Version) → Contains versions other → IsAbout other key → other.number ≤ v.number)
      → option_and_then value_left found ≡ value_left v.entry → Comes key versions before found

-- a version more in front, which is not about the key
other_in_front : (key : List ℕ) (x : Version) (versions : List Version) (before found : Option Entry) → (IsAbout x key → ⊥)
    → Comes key versions before found → Comes key (x ∷ versions) before found
other_in_front key x versions before found apart (as_before same without) = as_before same (λ v h about. elim (within_cases x versions v h) [
  | inl e ↦ apart (subst (λ (y : Version). IsAbout y key) (sym e) about)
  | inr rest ↦ without v rest about
])
other_in_front key x versions before found apart (by_version v h about last value) =
    by_version v (within_tail x versions v h) about (λ other k same. elim (within_cases x versions other k) [
      | inl e ↦ absurd (apart (subst (λ (y : Version). IsAbout y key) (sym e) same))
      | inr rest ↦ last other rest same
    ]) value

-- a version more in front, which is about the key
own_in_front : (key : List ℕ) (x : Version) (versions : List Version) (before found : Option Entry) → IsAbout x key
    → ((v : Version) → Contains versions v → x.number ≤ v.number) → Comes key versions (Some x.entry) found
    → Comes key (x ∷ versions) before found
own_in_front key x versions before found own later (as_before same without) =
    by_version x (within_head x versions) own (λ other k about. elim (within_cases x versions other k) [
      | inl e ↦ omega (arith, ap (λ (y : Version). y.number) e)
      | inr rest ↦ absurd (without other rest about)
    ]) (ap (λ (o : Option Entry). option_and_then value_left o) same)
own_in_front key x versions before found own later (by_version v h about last value) =
    by_version v (within_tail x versions v h) about (λ other k same. elim (within_cases x versions other k) [
      | inl e ↦ omega (arith, ap (λ (y : Version). y.number) e, later v h)
      | inr rest ↦ last other rest same
    ]) value

-- only a counted entry is about a key
not_about : (key : List ℕ) (entry : Entry) → is_counted entry ≡ false → is_about key entry ≡ false
not_about key (Set k value) e = absurd cc
not_about key (Delete k) e = absurd cc
not_about key (Note bytes) e = refl
not_about key (RangeDelete start end) e = absurd cc

comes : (key : List ℕ) (number : ℕ) (entries : List Entry) (before : Option Entry)
    → Comes key (versions_from number entries) before (last_or before (filter (is_about key) entries))
unfolding versions_from
comes key number [] before = as_before refl (λ v h about. none_within v h)
comes key number (entry ∷ entries) before =
    go (is_counted entry) (is_about key entry) refl refl (comes key number entries) (comes key (number + 1) entries)
  where
    x : Version
    x = record { entry = entry; number = number }

    go : (counted about : Bool) → is_counted entry ≡ counted → is_about key entry ≡ about
        → ((d : Option Entry) → Comes key (versions_from number entries) d (last_or d (filter (is_about key) entries)))
        → ((d : Option Entry) → Comes key (versions_from (number + 1) entries) d (last_or d (filter (is_about key) entries)))
        → Comes key (cond counted (x ∷ versions_from (number + 1) entries) (versions_from number entries)) before
        (last_or before (cond about (entry ∷ filter (is_about key) entries) (filter (is_about key) entries)))
    go false true c e note rest = let clash : true ≡ false = sym e ∙ not_about key entry c in absurd cc
    go false false c e note rest = note before
    go true true c e note rest = own_in_front key x (versions_from (number + 1) entries) before _ e
        (λ v h. omega (arith, (number_within (number + 1) entries v h).0)) (rest (Some entry))
    go true false c e note rest = other_in_front key x (versions_from (number + 1) entries) before _ (λ (is : is_about key entry ≡ true).
        let clash : true ≡ false = sym is ∙ e in absurd cc) (rest before)

-- ---- what is read is the answer

-- a version of the store, of which the numbers are all below the end
pub record IsVersionOf (from : ℕ) (batches : List Batch) (v : Version) : Type 0 where
  pub stands : Contains (versions_from from (entries_in batches)) v
  pub under : v.number < end_after from batches

pub version_of : (from : ℕ) (batches : List Batch) (v : Version) → IsContiguous from batches → Contains (versions_in batches) v → IsVersionOf from batches v
version_of from batches v numbered h =
    let stands : Contains (versions_from from (entries_in batches)) v =
    subst (λ (vs : List Version). Contains vs v) (versions_together from batches numbered) h in
    record { stands = stands; under = omega (arith, (number_within from (entries_in batches) v stands).1, end_together from batches numbered) }

-- the value that is told
abbrev pub value_of : Option Told → Option (List ℕ)
value_of it = option_and_then (λ (t : Told). t.value) it

pub answer_read : (from : ℕ) (batches : List Batch) (key : List ℕ) (found : Option Told) → IsContiguous from batches
    → TellsNewest (versions_in batches) key (end_after from batches) found → value_of found ≡ answer batches (length batches) key
unfolding answer
answer_read from batches key read numbered is_read =
    go read (last_or None (filter (is_about key) (entries_in batches))) is_read (comes key from (entries_in batches) None)
    ∙ ap (λ (bs : List Batch). option_and_then value_left (last_or None (filter (is_about key) (entries_in bs))))
    (sym (take_all (length batches) batches (omega arith)))
  where
    back : (v : Version) → Contains (versions_from from (entries_in batches)) v → Contains (versions_in batches) v
    back v h = subst (λ (vs : List Version). Contains vs v) (sym (versions_together from batches numbered)) h

    go : (read : Option Told) (found : Option Entry) → TellsNewest (versions_in batches) key (end_after from batches) read
        → Comes key (versions_from from (entries_in batches)) None found → value_of read ≡ option_and_then value_left found
    go None found without (as_before same missing) = sym (ap (λ (o : Option Entry). option_and_then value_left o) same)
    go None found without (by_version v h about last left) =
        absurd (omega (arith, without v (back v h) about, (version_of from batches v numbered (back v h)).under))
    go (Some it) found is (as_before same missing) =
        absurd (missing is.0 (version_of from batches is.0 numbered is.1.stands).stands is.1.about)
    go (Some it) found is (by_version w h also last left) =
        let here = version_of from batches is.0 numbered is.1.stands in
        let there = version_of from batches w numbered (back w h) in
        let low : w.number ≤ is.0.number = is.1.last w (back w h) also there.under in
        let same : is.0 ≡ w = one_number from (entries_in batches) is.0 w here.stands h (omega (arith, low, last is.0 here.stands is.1.about)) in
        sym (ap (λ (t : Told). t.value) is.2) ∙ ap (λ (x : Version). value_left x.entry) same ∙ sym left
