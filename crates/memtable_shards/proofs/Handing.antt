-- The next piece: the first list that is not empty, as it is handed out under its numbers.
use Rattle.std.proofs.Common.{◌≡◌, inl, inr, ℕ, ◌+◌, ◌≤◌, List, [], ◌∷◌, Option, Some, refl, sym, ap, ◌∙◌, subst, arith, get_or, length, length-set}
use Rattle.std.specs.Prelude.{Contains, slice_get}
use Rattle.std.proofs.Math.ListN.{set}
use Rattle.std.proofs.lemmas.Bool.{cases_lt}
use Rattle.std.proofs.lemmas.Option.{slice_get-get_or}
use Rattle.wal_base.specs.declared.entry.Entry.{Entry}
use Rattle.memtable_shards.specs.declared.sharding.TheConstants.{SHARDS}
use Rattle.memtable_shards.specs.Versions.{Version}
use Rattle.memtable_shards.specs.Versions.{versions_from, IsIn, of_shard}
use Rattle.memtable_shards.specs.Pieces.{IsNextPiece, NoPieceIsLeft}
use Rattle.memtable_shards.specs.Parts.{counted_from, MayWait, AreEmptyBetween, IsFirstWithAny, AreCut}
use Rattle.memtable_shards.proofs.Numbers.{number_within}
use Rattle.std.specs.Prelude.{IsTrue}
use Rattle.memtable_shards.specs.Versions.{is_in}
use Rattle.memtable_shards.proofs.Cutting.{shard_below, moved_piece, own_piece, none_kept, kept_from, before_numbered}
use Rattle.memtable_shards.proofs.Places.{changed}

-- one list more that is empty
pub empty_more : (lists : List (List Version)) (from shard : ℕ) (list : List Version) → AreEmptyBetween lists from shard
    → slice_get lists shard ≡ Some list → list ≡ [] → AreEmptyBetween lists from (shard + 1)
empty_more lists from shard list empty at none s l on within found = elim (cases_lt s shard) [
  | inl before ↦ empty s l on before found
  | inr here ↦
      let same : s ≡ shard = omega (arith, within, here) in
      let is : Some l ≡ Some list = sym found ∙ ap (λ (n : ℕ). slice_get lists n) same ∙ at in
      let it : l ≡ list = cc in
      it ∙ none
]

-- the list that was looked for
found_at : (lists : List (List Version)) (from shard : ℕ) (list other : List Version) → length lists ≡ SHARDS → IsFirstWithAny lists from shard
    → list ≡ get_or lists shard other → slice_get lists shard ≡ Some list
found_at lists from shard list other eight next is = slice_get-get_or lists shard other (omega (arith, next.within, eight)) ∙ ap Some (sym is)

pub piece_waits : (entries : List Entry) (first from shard : ℕ) (lists : List (List Version)) (list other : List Version)
    → AreCut entries (Some first) from lists → IsFirstWithAny lists from shard → list ≡ get_or lists shard other → MayWait (counted_from first list)
piece_waits entries first from shard lists list other cut next is =
    subst MayWait (sym (ap (counted_from first) own ∙ moved_piece shard first entries)) (record {
      numbers = λ v h. omega (arith, (number_within first entries v (kept_from shard (versions_from first entries) v h).0).1, cut.within);
      apart = own_piece shard first entries;
    })
  where
    own : list ≡ of_shard shard (versions_from 0 entries)
    own = cut.left shard list next.on (found_at lists from shard list other cut.eight next is)

-- Where lists are empty up to a shard, a version belongs to none from there on and before it.
none_before : (entries : List Entry) (numbered : Option ℕ) (from shard : ℕ) (lists : List (List Version)) → AreCut entries numbered from lists
    → AreEmptyBetween lists from shard → shard ≤ SHARDS → (v : Version) (own : ℕ) → Contains (versions_from 0 entries) v → IsIn v own → from ≤ own
    → shard ≤ own
none_before entries numbered from shard lists cut empty within v own h here on = elim (cases_lt own shard) [
  | inl low ↦
      let at : slice_get lists own ≡ Some (get_or lists own []) = slice_get-get_or lists own [] (omega (arith, low, within, cut.eight)) in
      absurd (none_kept own (versions_from 0 entries) v (sym (cut.left own (get_or lists own []) on at) ∙ empty own (get_or lists own []) on low at) h here)
  | inr high ↦ high
]

pub next_piece : (entries : List Entry) (first from shard : ℕ) (lists : List (List Version)) (list other nodes : List Version)
    → AreCut entries (Some first) from lists → IsFirstWithAny lists from shard → list ≡ get_or lists shard other → nodes ≡ counted_from first list
    → IsNextPiece (record { entries = entries; first = Some first; from = from }) shard nodes
next_piece entries first from shard lists list other nodes cut next is numbered = record {
  on = next.on;
  within = next.within;
  next = λ v other h here on. let was = before_numbered first entries v h in
      none_before entries (Some first) from shard lists cut next.before (omega (arith, next.within)) was.0 other was.1
      (subst (λ (e : Entry). IsTrue (is_in other e)) (sym was.2) here) on;
  own = numbered ∙ ap (counted_from first) (cut.left shard list next.on at) ∙ moved_piece shard first entries;
  some = λ (none : nodes ≡ []). next.some list at (none_moved list (sym numbered ∙ none));
}
  where
    at : slice_get lists shard ≡ Some list
    at = found_at lists from shard list other cut.eight next is

    none_moved : (xs : List Version) → counted_from first xs ≡ [] → xs ≡ []
    none_moved [] none = refl
    none_moved (x ∷ xs) none = absurd cc

-- The lists after the one that was taken are as they were.
pub cut_rest : (entries : List Entry) (numbered : Option ℕ) (from shard : ℕ) (lists : List (List Version)) → AreCut entries numbered from lists
    → IsFirstWithAny lists from shard → AreCut entries numbered (shard + 1) (set lists shard [])
cut_rest entries numbered from shard lists cut next = record {
  eight = length-set lists shard [] ∙ cut.eight;
  left = λ s l on at. elim (changed lists shard (get_or lists shard []) [] s l there at) [
    | inl same ↦ absurd (omega (arith, on, same.0))
    | inr other ↦ cut.left s l (omega (arith, next.on, on)) other.1
  ];
  within = cut.within;
}
  where
    there : slice_get lists shard ≡ Some (get_or lists shard [])
    there = slice_get-get_or lists shard [] (omega (arith, next.within, cut.eight))

pub none_left : (entries : List Entry) (first from : ℕ) (lists : List (List Version)) → AreCut entries (Some first) from lists
    → AreEmptyBetween lists from SHARDS → NoPieceIsLeft (record { entries = entries; first = Some first; from = from })
none_left entries first from lists cut empty v own h here =
    let was = before_numbered first entries v h in
    elim (cases_lt own from) [
      | inl low ↦ low
      | inr on ↦ absurd (omega (
        arith,
        none_before entries (Some first) from SHARDS lists cut empty (omega arith) was.0 own was.1
            (subst (λ (e : Entry). IsTrue (is_in own e)) (sym was.2) here) on,
        shard_below own v here,
      ))
    ]
