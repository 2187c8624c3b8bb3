-- The number after the last table of a list, and the greater of it and of the number after all segments.
use native.Mathlib.Decide.{dec_le}
use Rattle.std.proofs.Common.{◌≡◌, ◌⊎◌, inl, inr, ℕ, suc, ◌≤◌, ◌<◌, max, List, [], ◌∷◌, ◌++◌, length, Some, Contains, subst, ap, refl, arith}
use Rattle.std.proofs.lemmas.List.Elements.{Contains-append_right}
use Rattle.wal_base.proofs.Laws.{none_within, within_cases, within_head}
use Rattle.disk_face.specs.declared.TableListed.{TableListed}
use Rattle.disk_face.specs.View.{table, Files}
use Rattle.disk_face.specs.Image.{dirs_as_read}
use Rattle.disk_face.specs.Listing.{AreTablesAscending, IsTableNumber, IsTableListing}
use Rattle.disk_face.proofs.Laws.{AllPairs-head, AllPairs-tail}
use Rattle.wal_recovery.specs.Listing.{Stored, StandsIn, IsNextWal}
use Rattle.flush_table.specs.Stores.{IsNextWalOfStore}
use Rattle.flush_table.specs.Reading.{IsAfterTables}
use Rattle.flush_table.proofs.Whole.{table_read, table_there}

abbrev IsBelow : TableListed → TableListed → Type 0
IsBelow a b = a.upto < b.upto

-- no table of an ascending list is greater than the last one
none_after_last : (front : List TableListed) (last : TableListed) → AreTablesAscending (front ++ last ∷ []) → (item : TableListed)
    → Contains (front ++ last ∷ []) item → item.upto ≤ last.upto
none_after_last [] last up item at = elim (within_cases last [] item at) [
  | inl e ↦ omega (arith, ap (λ (x : TableListed). x.upto) e)
  | inr none ↦ absurd (none_within item none)
]
none_after_last (y ∷ front) last up item at = elim (within_cases y (front ++ last ∷ []) item at) [
  | inl e ↦
      let there = Contains-append_right front (last ∷ []) last (within_head last []) in
      let below : y.upto < last.upto = subst (λ (x : TableListed). y.upto < x.upto) there.2
      (AllPairs-head IsBelow y (front ++ last ∷ []) up there.0 last there.1) in
      omega (arith, ap (λ (x : TableListed). x.upto) e, below)
  | inr later ↦ none_after_last front last (AllPairs-tail IsBelow y (front ++ last ∷ []) up) item later
]

pub after_last : (front : List TableListed) (last : TableListed) → AreTablesAscending (front ++ last ∷ [])
    → IsAfterTables (front ++ last ∷ []) (suc last.upto)
after_last front last up = record {
  above = λ item at. omega (arith, none_after_last front last up item at);
  least = inr (last, Contains-append_right front (last ∷ []) last (within_head last []), refl);
}

pub after_none : IsAfterTables [] 1
after_none = record { above = λ item at. absurd (none_within item at); least = inl (refl, refl) }

module _ (files : Files) (tables : List TableListed) (listing : IsTableListing files tables) (segments number : ℕ)
    (wals : IsNextWal (dirs_as_read files) segments) (after : IsAfterTables tables number) where
  -- a table of the directories is listed
  there_listed : (upto : ℕ) (bytes : List ℕ) → IsTableNumber upto → dirs_as_read files (table upto) ≡ Some bytes
      → (item : TableListed) × Contains tables item × (item.upto ≡ upto)
  there_listed upto bytes named there =
      let f = table_read upto (files (table upto)) bytes there in
      let item : TableListed = record { upto = upto; len = length f.0.reads } in
      (item, (listing item).1 (named, (f.0, f.1, refl)), refl)

  none_there : tables ≡ [] → (upto : ℕ) (bytes : List ℕ) → IsTableNumber upto → dirs_as_read files (table upto) ≡ Some bytes → ⊥
  none_there empty upto bytes named there =
      let i = there_listed upto bytes named there in
      none_within i.0 (subst (λ (l : List TableListed). Contains l i.0) empty i.1)

  abbrev IsAfterOne : ℕ → Type 0
  IsAfterOne n = (upto : ℕ) × (bytes : List ℕ) × IsTableNumber upto × (dirs_as_read files (table upto) ≡ Some bytes) × (n ≡ suc upto)

  of_item : (n : ℕ) (item : TableListed) → Contains tables item → n ≡ suc item.upto → IsAfterOne n
  of_item n item at is =
      let h = (listing item).0 at in
      (item.upto, h.1.0.reads, h.0, table_there files item.upto item.len h.1, is)

  abbrev Least : ℕ → Type 0
  Least n = ((n ≡ 1) × ((w : ℕ) (stored : Stored) → StandsIn (dirs_as_read files) w stored → ⊥)
      × ((upto : ℕ) (bytes : List ℕ) → IsTableNumber upto → dirs_as_read files (table upto) ≡ Some bytes → ⊥))
      ⊎ (((w : ℕ) × (stored : Stored) × StandsIn (dirs_as_read files) w stored × (n ≡ suc w)) ⊎ IsAfterOne n)

  by_segments : number ≤ segments → Least segments
  by_segments below = elim wals.least [
    | inr (w, stored, stands, e) ↦ inr (inl (w, stored, stands, e))
    | inl (first, none) ↦ elim after.least [
      | inl (also, empty) ↦ inl (first, none, none_there empty)
      | inr (item, at, e) ↦ inr (inr (of_item segments item at (omega (arith, first, e, below))))
    ]
  ]

  by_tables : segments ≤ number → Least number
  by_tables low = elim after.least [
    | inr (item, at, e) ↦ inr (inr (of_item number item at e))
    | inl (first, empty) ↦ elim wals.least [
      | inl (also, none) ↦ inl (first, none, none_there empty)
      | inr (w, stored, stands, e) ↦ inr (inl (w, stored, stands, omega (arith, first, e, low)))
    ]
  ]

  least_is : (next : ℕ) → next ≡ max segments number → Least next
  least_is next is = elim (dec_le segments number) [
    | yes low ↦ let e : number ≡ next = omega (arith, is, low) in subst Least e (by_tables low)
    | no above ↦
        let below : number ≤ segments = omega (arith, above) in
        let e : segments ≡ next = omega (arith, is, below) in subst Least e (by_segments below)
  ]

  pub next_is : (next : ℕ) → next ≡ max segments number → IsNextWalOfStore (dirs_as_read files) next
  next_is next is = record {
    above = λ w stored stands. omega (arith, wals.above w stored stands, is);
    past = λ upto bytes named there.
        let i = there_listed upto bytes named there in
        omega (arith, after.above i.0 i.1, i.2, is);
    least = least_is next is;
  }
