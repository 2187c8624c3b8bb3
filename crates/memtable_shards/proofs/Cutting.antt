-- Versions by shard: filtered, renumbered, and sorted into lists.
use Rattle.std.proofs.Common.{◌≡◌, ◌≢◌, ◌⊎◌, inl, inr, ℕ, zero, suc, ◌+◌, ◌<◌, Bool, true, false, cond, List, [], ◌∷◌, ◌++◌, length, take, Option, Some, None, refl, sym, ap, ◌∙◌, subst, arith, get_or, eqb, length-append}
use Rattle.std.specs.Prelude.{Contains, slice_get}
use Rattle.std.specs.List.{AllByRecursion}
use Rattle.std.proofs.lemmas.Bool.Decides.{nat_tests}
use Rattle.std.specs.Option.{option_to_list}
use Rattle.batch_repr.specs.Batches.{count_of}
use Rattle.std.proofs.lemmas.List.{append-nil, take_more}
use Rattle.std.proofs.Math.ListN.{set}
use Rattle.std.proofs.lemmas.Option.{slice_get_within, slice_get-get_or}
use Rattle.std.proofs.lemmas.List.Elements.{filter-append}
use Rattle.wal_base.proofs.Laws.{none_within, within_head, within_tail, within_cases}
use Rattle.wal_base.specs.declared.entry.Entry.{Entry}
use Rattle.wal_base.specs.declared.entry.Entry.TheVariants.{Set, Delete, Note, RangeDelete}
use Rattle.memtable_shards.specs.Versions.{Version}
use Rattle.memtable_shards.specs.Versions.{versions_from, shard_of, is_in, IsIn, of_shard}
use Rattle.memtable_shards.specs.Parts.{key_entry, counted_from, HaveOwnNumbers, AreByShard, AddsToFirst}
use Rattle.memtable_shards.specs.declared.sharding.TheConstants.{SHARDS}
use Rattle.std.proofs.lemmas.Bool.{cases_lt}
use Rattle.memtable_shards.proofs.Places.{changed}
use Rattle.memtable_shards.proofs.Numbers.{number_within, versions-append, count-append, count_is_length}
use Rattle.memtable_shards.proofs.Counting.{moved}

abbrev pub in_shard : ℕ → Version → Bool
in_shard shard version = is_in shard version.entry

-- ---- a shard's versions

pub kept : (shard : ℕ) (xs : List Version) (v : Version) → Contains xs v → IsIn v shard → Contains (of_shard shard xs) v
kept shard [] v h is = absurd (none_within v h)
kept shard (x ∷ xs) v h is = go (in_shard shard x) refl (within_cases x xs v h) (λ later. kept shard xs v later is)
  where
    go : (b : Bool) → in_shard shard x ≡ b → (x ≡ v) ⊎ Contains xs v → (Contains xs v → Contains (of_shard shard xs) v)
        → Contains (cond b (x ∷ of_shard shard xs) (of_shard shard xs)) v
    go true e (inl same) rest = subst (λ (w : Version). Contains (x ∷ of_shard shard xs) w) same (within_head x (of_shard shard xs))
    go true e (inr later) rest = within_tail x (of_shard shard xs) v (rest later)
    go false e (inl same) rest = let clash : false ≡ true = sym e ∙ ap (λ (w : Version). in_shard shard w) same ∙ is in cc
    go false e (inr later) rest = rest later

pub kept_from : (shard : ℕ) (xs : List Version) (v : Version) → Contains (of_shard shard xs) v → Contains xs v × IsIn v shard
kept_from shard [] v h = absurd (none_within v h)
kept_from shard (x ∷ xs) v h = go (in_shard shard x) refl h (kept_from shard xs v)
  where
    go : (b : Bool) → in_shard shard x ≡ b → Contains (cond b (x ∷ of_shard shard xs) (of_shard shard xs)) v
        → (Contains (of_shard shard xs) v → Contains xs v × IsIn v shard) → Contains (x ∷ xs) v × IsIn v shard
    go true e h rest = elim (within_cases x (of_shard shard xs) v h) [
      | inl same ↦ (subst (λ (w : Version). Contains (x ∷ xs) w) same (within_head x xs), subst (λ (w : Version). IsIn w shard) same e)
      | inr later ↦ (within_tail x xs v (rest later).0, (rest later).1)
    ]
    go false e h rest = (within_tail x xs v (rest h).0, (rest h).1)

-- there are eight shards
pub shard_below : (shard : ℕ) (v : Version) → IsIn v shard → shard < SHARDS
shard_below shard v here = go v.entry here
  where
    go : (entry : Entry) → is_in shard entry ≡ true → shard < SHARDS
    go (Set key value) is = let own : shard_of key ≡ shard = grind (arith, nat_tests, is) in omega (arith, own)
    go (Delete key) is = let own : shard_of key ≡ shard = grind (arith, nat_tests, is) in omega (arith, own)
    go (Note bytes) is = absurd cc
    go (RangeDelete start end) is = grind (arith, nat_tests, is)

-- a version of a key belongs to the key's shard alone
pub key_in : (shard : ℕ) (key : List ℕ) (value : Option (List ℕ)) → is_in shard (key_entry key value) ≡ eqb (shard_of key) shard
key_in shard key None = refl
key_in shard key (Some value) = refl

-- none of the versions is of a shard that has none
pub none_kept : (shard : ℕ) (xs : List Version) (v : Version) → of_shard shard xs ≡ [] → Contains xs v → IsIn v shard → ⊥
none_kept shard xs v none h is = none_within v (subst (λ (l : List Version). Contains l v) none (kept shard xs v h is))

own_kept : (shard : ℕ) (xs : List Version) → HaveOwnNumbers xs → HaveOwnNumbers (of_shard shard xs)
unfolding HaveOwnNumbers
own_kept shard [] own = tt
own_kept shard (x ∷ xs) own = go (in_shard shard x) (own_kept shard xs own.1)
  where
    go : (b : Bool) → HaveOwnNumbers (of_shard shard xs) → HaveOwnNumbers (cond b (x ∷ of_shard shard xs) (of_shard shard xs))
    go true rest = (λ w h. own.0 w (kept_from shard xs w h).0, rest)
    go false rest = rest

own_from : (number : ℕ) (entries : List Entry) → HaveOwnNumbers (versions_from number entries)
unfolding HaveOwnNumbers versions_from
own_from number [] = tt
own_from number (Set key value ∷ entries) = (
  λ w h (e : w.number ≡ number). omega (arith, e, (number_within (number + 1) entries w h).0),
  own_from
      (number + 1) entries,
)
own_from number (Delete key ∷ entries) = (
  λ w h (e : w.number ≡ number). omega (arith, e, (number_within (number + 1) entries w h).0),
  own_from
      (number + 1) entries,
)
own_from number (RangeDelete start end ∷ entries) = (
  λ w h (e : w.number ≡ number). omega (arith, e, (number_within (number + 1) entries w h).0),
  own_from
      (number + 1) entries,
)
own_from number (Note bytes ∷ entries) = own_from number entries

pub own_piece : (shard number : ℕ) (entries : List Entry) → HaveOwnNumbers (of_shard shard (versions_from number entries))
own_piece shard number entries = own_kept shard (versions_from number entries) (own_from number entries)

-- ---- numbers that come later

-- counted from 0 and moved, or counted from there on
pub renumbered : (first number : ℕ) (entries : List Entry) → counted_from first (versions_from number entries) ≡ versions_from (first + number) entries
unfolding versions_from
renumbered first number [] = refl
renumbered first number (Set key value ∷ entries) = ap (λ (t : List Version). record { entry = Set key value; number = first + number } ∷ t)
    (renumbered first (number + 1) entries ∙ ap (λ (n : ℕ). versions_from n entries) (omega arith))
renumbered first number (Delete key ∷ entries) = ap (λ (t : List Version). record { entry = Delete key; number = first + number } ∷ t)
    (renumbered first (number + 1) entries ∙ ap (λ (n : ℕ). versions_from n entries) (omega arith))
renumbered first number (RangeDelete start end ∷ entries) = ap (λ (t : List Version). record { entry = RangeDelete start end; number = first + number } ∷ t)
    (renumbered first (number + 1) entries ∙ ap (λ (n : ℕ). versions_from n entries) (omega arith))
renumbered first number (Note bytes ∷ entries) = renumbered first number entries

moved_kept : (shard first : ℕ) (xs : List Version) → counted_from first (of_shard shard xs) ≡ of_shard shard (counted_from first xs)
moved_kept shard first [] = refl
moved_kept shard first (x ∷ xs) = go (in_shard shard x) (moved_kept shard first xs)
  where
    go : (b : Bool) → counted_from first (of_shard shard xs) ≡ of_shard shard (counted_from first xs)
        → counted_from first (cond b (x ∷ of_shard shard xs) (of_shard shard xs)) ≡ cond b (moved first x ∷ of_shard shard (counted_from first xs))
        (of_shard shard (counted_from first xs))
    go true rest = ap (λ (t : List Version). moved first x ∷ t) rest
    go false rest = rest

pub moved_piece : (shard first : ℕ) (entries : List Entry)
    → counted_from first (of_shard shard (versions_from 0 entries)) ≡ of_shard shard (versions_from first entries)
moved_piece shard first entries = moved_kept shard first (versions_from 0 entries)
    ∙ ap (of_shard shard) (renumbered first 0 entries ∙ ap (λ (n : ℕ). versions_from n entries) (omega arith))

-- a version under another number
unmoved : (first : ℕ) (xs : List Version) (v : Version) → Contains (counted_from first xs) v → (w : Version) × Contains xs w × (w.entry ≡ v.entry)
unmoved first [] v h = absurd (none_within v h)
unmoved first (x ∷ xs) v h = elim (within_cases (moved first x) (counted_from first xs) v h) [
  | inl is ↦ (x, within_head x xs, ap (λ (y : Version). y.entry) is)
  | inr later ↦ let found = unmoved first xs v later in (found.0, within_tail x xs found.0 found.1, found.2)
]

pub before_numbered : (first : ℕ) (entries : List Entry) (v : Version) → Contains (versions_from first entries) v
    → (w : Version) × Contains (versions_from 0 entries) w × (w.entry ≡ v.entry)
before_numbered first entries v h =
    unmoved first (versions_from 0 entries) v (subst (λ (l : List Version). Contains l v)
    (sym (renumbered first 0 entries ∙ ap (λ (n : ℕ). versions_from n entries) (omega arith))) h)

-- ---- the lists of the shards

-- the versions of one entry more
pub entry_more : (entries : List Entry) (i : ℕ) (entry : Entry) (number : ℕ) (version : Option Version) → entry ≡ get_or entries i entry
    → i < length entries → number ≡ count_of (take i entries) → option_to_list version ≡ versions_from number (entry ∷ [])
    → (versions_from 0 (take (i + 1) entries) ≡ versions_from 0 (take i entries) ++ option_to_list version) × (count_of
    (take (i + 1) entries) ≡ number + length (option_to_list version))
entry_more entries i entry number version is within at left = (
  ap (versions_from 0) more ∙ versions-append 0 (take i entries) (entry ∷ [])
      ∙ ap (λ (n : ℕ). versions_from 0 (take i entries) ++ versions_from n (entry ∷ [])) (omega (arith, at))
      ∙ ap (λ (l : List Version). versions_from 0 (take i entries) ++ l) (sym left),
  omega (
    arith,
    ap count_of more,
    count-append (take i entries) (entry ∷ []),
    at,
    ap (λ (l : List Version). length l) left,
    count_is_length number
        (entry ∷ []),
  ),
)
  where
    more : take (i + 1) entries ≡ take i entries ++ entry ∷ []
    more = take_more entries i entry within ∙ ap (λ (e : Entry). take i entries ++ e ∷ []) (sym is)

pub empty_by_shard : (lists : List (List Version)) → AllByRecursion (λ (l : List Version). l ≡ []) lists → AreByShard [] lists
empty_by_shard [] all shard list is = absurd cc
empty_by_shard (l ∷ lists) all zero list is = let e : l ≡ list = cc in sym e ∙ all.0
empty_by_shard (l ∷ lists) all (suc shard) list is = empty_by_shard lists all.1 shard list is

-- one version more, in the list of its key's shard, to which alone it belongs
pub by_shard_added : (versions : List Version) (v : Version) (lists : List (List Version)) (own : ℕ) (was now : List Version) → AreByShard versions lists
    → ((k : ℕ) → in_shard k v ≡ eqb own k) → own < length lists → was ≡ get_or lists own was → now ≡ was ++ v ∷ []
    → AreByShard (versions ++ v ∷ []) (set lists own now)
by_shard_added versions v lists own was now by just within is more shard found at = elim (changed lists own was now shard found there at) [
  | inl same ↦
      same.1 ∙ more
      ∙ ap (λ (l : List Version). l ++ v ∷ []) (by shard was (subst (λ (n : ℕ). slice_get lists n ≡ Some was) (sym same.0) there))
      ∙ sym (whole true (just shard ∙ let e : own ≡ shard = sym same.0 in grind (arith, nat_tests, e)))
  | inr other ↦
      by shard found other.1 ∙ sym (append-nil (of_shard shard versions))
      ∙ sym (whole false (just shard ∙ go (eqb own shard) refl other.0))
]
  where
    there : slice_get lists own ≡ Some was
    there = slice_get-get_or lists own was within ∙ ap Some (sym is)

    whole : (b : Bool) → in_shard shard v ≡ b → of_shard shard (versions ++ v ∷ []) ≡ of_shard shard versions ++ cond b (v ∷ []) []
    whole b e = filter-append (in_shard shard) versions (v ∷ []) ∙ ap (λ (b : Bool). of_shard shard versions ++ cond b (v ∷ []) []) e

    go : (b : Bool) → eqb own shard ≡ b → shard ≢ own → b ≡ false
    go false e apart = refl
    go true e apart = absurd (apart (grind (arith, nat_tests, e)))

-- one version more, in each list, where it belongs to each shard
pub by_shard_all : (versions : List Version) (v : Version) (old new : List (List Version)) → AreByShard versions old → AddsToFirst v SHARDS old new
    → length new ≡ SHARDS → ((k : ℕ) → k < SHARDS → in_shard k v ≡ true) → AreByShard (versions ++ v ∷ []) new
by_shard_all versions v old new by adds eight each shard found at =
    let more = adds shard found at in
    let within : shard < SHARDS = omega (arith, slice_get_within new shard found at, eight) in
    more.2 within ∙ ap (λ (l : List Version). l ++ v ∷ []) (by shard more.0 more.1)
    ∙ sym (filter-append (in_shard shard) versions (v ∷ []) ∙ ap (λ (b : Bool). of_shard shard versions ++ cond b (v ∷ []) []) (each shard within))

-- no list has it yet
pub added_none : (v : Version) (lists : List (List Version)) → AddsToFirst v 0 lists lists
added_none v lists shard list at = (list, at, (λ before. absurd (omega (arith, before))), λ on. refl)

-- one list more has it
pub added_more : (v : Version) (end : ℕ) (old lists : List (List Version)) (was now : List Version) → AddsToFirst v end old lists
    → end < length lists → was ≡ get_or lists end was → now ≡ was ++ v ∷ [] → AddsToFirst v (end + 1) old (set lists end now)
added_more v end old lists was now adds within is more shard list at = elim (changed lists end was now shard list there at) [
  | inl same ↦
      let before = adds end was there in
      let place : shard ≡ end = same.0 in (
        before.0,
        subst (λ (n : ℕ). slice_get old n ≡ Some before.0) (sym place) before.1,
        λ low. same.1 ∙ more ∙ ap (λ (l : List Version). l ++ v ∷ []) (before.3 (omega arith)),
        λ on. absurd (omega (arith, on, place)),
      )
  | inr other ↦
      let before = adds shard list other.1 in (
        before.0,
        before.1,
        λ low. before.2 (below shard other.0 low),
        λ on. before.3 (omega (arith, on)),
      )
]
  where
    there : slice_get lists end ≡ Some was
    there = slice_get-get_or lists end was within ∙ ap Some (sym is)

    below : (shard : ℕ) → shard ≢ end → shard < end + 1 → shard < end
    below shard apart low = elim (cases_lt shard end) [
      | inl less ↦ less
      | inr on ↦ absurd (apart (omega (arith, on, low)))
    ]

pub one_less : {X : Type 0} (old new : List X) (x : X) → old ≡ new ++ x ∷ [] → length old ≡ length new + 1
one_less {X = X} old new x is = omega (arith, ap (λ (l : List X). length l) is, length-append new (x ∷ []))

-- a list that was asked whether it is empty
pub tested_empty : {X : Type 0} (xs : List X) → true ≡ eqb (length xs) 0 → xs ≡ []
tested_empty [] test = refl
tested_empty (x ∷ xs) test = absurd (grind (arith, nat_tests, test))
