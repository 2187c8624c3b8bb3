-- The number after the last names of both listings is that of the next WAL.
use native.Mathlib.Decide.{dec_le}
use Rattle.wal_base.proofs.Laws.{within_cases, within_head}
use Rattle.std.proofs.Common.{◌≡◌, ◌⊎◌, inl, inr, ℕ, suc, ◌≤◌, max, List, [], ◌∷◌, ◌++◌, Some, Contains, length, subst, ap, refl, arith}
use Rattle.std.proofs.lemmas.List.Elements.{Contains-append_right}
use Rattle.disk_face.specs.declared.Side.{Side}
use Rattle.disk_face.specs.declared.Side.TheVariants.{Primary, Secondary}
use Rattle.disk_face.specs.declared.SegName.{SegName}
use Rattle.disk_face.specs.declared.Listed.{Listed}
use Rattle.disk_face.specs.View.{segment, Files}
use Rattle.disk_face.specs.Image.{dirs_as_read}
use Rattle.disk_face.specs.Listing.{IsBefore, IsAscending, IsSegmentName, HasLength}
use Rattle.disk_face.proofs.Laws.{AllPairs-head, AllPairs-tail, read_created}
use Rattle.segment_merge.proofs.Laws.{none_within}
use Rattle.wal_recovery.specs.declared.listing.Sides.{Sides}
use Rattle.wal_recovery.specs.Listing.{Stored, StandsIn, IsNextWal, name_in}
use Rattle.wal_recovery.specs.Sides.{AreListings, IsAfter}
use Rattle.wal_recovery.proofs.Groups.{wal_up}
use Rattle.wal_recovery.proofs.IsListing.{read_open}

abbrev IsBeforeItem : Listed → Listed → Type 0
IsBeforeItem a b = IsBefore a.name b.name

-- no name of an ascending list has a greater WAL than the last one
pub none_after_last : (front : List Listed) (last : Listed) → IsAscending (front ++ last ∷ []) → (item : Listed) → Contains (front ++ last ∷ []) item
    → item.name.wal ≤ last.name.wal
none_after_last [] last up item at = elim (within_cases last [] item at) [
  | inl e ↦ omega (arith, ap (λ (x : Listed). x.name.wal) e)
  | inr none ↦ absurd (none_within item none)
]
none_after_last (y ∷ front) last up item at = elim (within_cases y (front ++ last ∷ []) item at) [
  | inl e ↦
      let there = Contains-append_right front (last ∷ []) last (within_head last []) in
      let before : IsBefore y.name last.name = subst (λ (x : Listed). IsBefore y.name x.name) there.2
      (AllPairs-head IsBeforeItem y (front ++ last ∷ []) up there.0 last there.1) in
      omega (arith, ap (λ (x : Listed). x.name.wal) e, wal_up y.name last.name before)
  | inr later ↦ none_after_last front last (AllPairs-tail IsBeforeItem y (front ++ last ∷ []) up) item later
]

-- so the number after it is the one after all
pub after_last : (front : List Listed) (last : Listed) → IsAscending (front ++ last ∷ []) → IsAfter (front ++ last ∷ []) (suc last.name.wal)
after_last front last up = record {
  above = λ item at. omega (arith, none_after_last front last up item at);
  least = inr (last, Contains-append_right front (last ∷ []) last (within_head last []), refl);
}

pub after_none : IsAfter [] 1
after_none = record { above = λ item at. absurd (none_within item at); least = inl (refl, refl) }

-- The name is listed on that side.
abbrev pub IsListedOn : Sides → Side → Listed → Type 0
IsListedOn sides Primary item = Contains sides.primary item
IsListedOn sides Secondary item = Contains sides.secondary item

on_either : (sides : Sides) (side : Side) (item : Listed) → IsListedOn sides side item → Contains sides.primary item ⊎ Contains sides.secondary item
on_either sides Primary item at = inl at
on_either sides Secondary item at = inr at

module _ (files : Files) (sides : Sides) (listings : AreListings files sides) where
  -- a segment of the directories is listed
  pub stands_listed : (number : ℕ) (stored : Stored) → StandsIn (dirs_as_read files) number stored
      → (item : Listed) × (item.name ≡ name_in number stored.index) × IsListedOn sides stored.side item
  stands_listed number stored (named, reads) = on stored.side reads
    where
      name : SegName
      name = name_in number stored.index

      on : (side : Side) → dirs_as_read files (segment side name) ≡ Some stored.content
          → (item : Listed) × (item.name ≡ name) × IsListedOn sides side item
      on Primary reads =
          let f = read_open Primary name (files (segment Primary name)) stored.content reads in
          let item : Listed = record { name = name; len = length f.0.reads } in
          (item, refl, (listings.primary item).1 (named, (f.0, f.1, f.2, refl)))
      on Secondary reads =
          let f = read_open Secondary name (files (segment Secondary name)) stored.content reads in
          let item : Listed = record { name = name; len = length f.0.reads } in
          (item, refl, (listings.secondary item).1 (named, (f.0, f.1, f.2, refl)))

  listed : (number : ℕ) (stored : Stored) → StandsIn (dirs_as_read files) number stored
      → (item : Listed) × (item.name.wal ≡ number) × (Contains sides.primary item ⊎ Contains sides.secondary item)
  listed number stored there =
      let l = stands_listed number stored there in
      (l.0, ap (λ (n : SegName). n.wal) l.1, on_either sides stored.side l.0 l.2)

  -- and a listed one stands in the directories
  stands : (side : Side) (item : Listed) → IsSegmentName item.name × HasLength files (segment side item.name) item.len
      → (stored : Stored) × StandsIn (dirs_as_read files) item.name.wal stored
  stands side item (named, (f, is, created, long)) = (
    record { side = side; index = item.name.index; content = f.reads },
    (named, read_created (segment side item.name) (files (segment side item.name)) f is created),
  )

  pub listed_stands : (side : Side) (item : Listed) → IsListedOn sides side item → (stored : Stored) × StandsIn (dirs_as_read files) item.name.wal stored
  listed_stands Primary item at = stands Primary item ((listings.primary item).0 at)
  listed_stands Secondary item at = stands Secondary item ((listings.secondary item).0 at)

  ones_stand : (item : Listed) → Contains sides.primary item → (stored : Stored) × StandsIn (dirs_as_read files) item.name.wal stored
  ones_stand item at = stands Primary item ((listings.primary item).0 at)

  others_stand : (item : Listed) → Contains sides.secondary item → (stored : Stored) × StandsIn (dirs_as_read files) item.name.wal stored
  others_stand item at = stands Secondary item ((listings.secondary item).0 at)

  none_listed : sides.primary ≡ [] → sides.secondary ≡ [] → (number : ℕ) (stored : Stored) → StandsIn (dirs_as_read files) number stored → ⊥
  none_listed a b number stored there =
      let l = listed number stored there in
      elim l.2 [
        | inl one ↦ none_within l.0 (subst (λ (names : List Listed). Contains names l.0) a one)
        | inr other ↦ none_within l.0 (subst (λ (names : List Listed). Contains names l.0) b other)
      ]

  abbrev Least : ℕ → Type 0
  Least next = ((next ≡ 1) × ((number : ℕ) (stored : Stored) → StandsIn (dirs_as_read files) number stored → ⊥))
      ⊎ ((number : ℕ) × (stored : Stored) × StandsIn (dirs_as_read files) number stored × (next ≡ suc number))

  module _ (one other : ℕ) (a : IsAfter sides.primary one) (b : IsAfter sides.secondary other) where
    of_one : other ≤ one → Least one
    of_one below = elim a.least [
      | inr (item, at, e) ↦ let s = ones_stand item at in inr (item.name.wal, s.0, s.1, e)
      | inl (first, none) ↦ elim b.least [
        | inl (also, empty) ↦ inl (first, none_listed none empty)
        | inr (item, at, e) ↦ let s = others_stand item at in inr (item.name.wal, s.0, s.1, omega (arith, first, e, below))
      ]
    ]

    of_other : one ≤ other → Least other
    of_other low = elim b.least [
      | inr (item, at, e) ↦ let s = others_stand item at in inr (item.name.wal, s.0, s.1, e)
      | inl (first, none) ↦ elim a.least [
        | inl (also, empty) ↦ inl (first, none_listed empty none)
        | inr (item, at, e) ↦ let s = ones_stand item at in inr (item.name.wal, s.0, s.1, omega (arith, first, e, low))
      ]
    ]

    least_is : (next : ℕ) → next ≡ max one other → Least next
    least_is next is = elim (dec_le one other) [
      | yes low ↦ let e : other ≡ next = omega (arith, is, low) in subst Least e (of_other low)
      | no above ↦
          let below : other ≤ one = omega (arith, above) in
          let e : one ≡ next = omega (arith, is, below) in subst Least e (of_one below)
    ]

    pub next_is : (next : ℕ) → next ≡ max one other → IsNextWal (dirs_as_read files) next
    next_is next is = record {
      above = λ number stored there.
          let l = listed number stored there in
          elim l.2 [
            | inl here ↦ omega (arith, a.above l.0 here, is, l.1)
            | inr here ↦ omega (arith, b.above l.0 here, is, l.1)
          ];
      least = least_is next is;
    }
