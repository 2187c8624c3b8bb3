-- What is listed, as places: each has a file, and a segment of the directories is one of them.
use Rattle.std.proofs.Common.{◌≡◌, ◌⊎◌, inl, inr, ℕ, ◌<◌, ◌≤◌, List, [], ◌∷◌, ◌++◌, length, map, get_or, Contains, IsSome, sym, subst, ap, ◌∙◌, refl, arith}
use Rattle.std.proofs.lemmas.List.{length-map, get_or-map}
use Rattle.std.proofs.lemmas.List.Elements.{Contains-append_cases, Contains-append_left, Contains-append_right, Contains-get_or}
use Rattle.wal_base.proofs.Laws.{none_within}
use Rattle.disk_face.specs.declared.Side.{Side}
use Rattle.disk_face.specs.declared.Side.TheVariants.{Primary, Secondary}
use Rattle.disk_face.specs.declared.Listed.{Listed}
use Rattle.disk_face.specs.declared.TableListed.{TableListed}
use Rattle.disk_face.specs.View.{Place, segment, table, Files}
use Rattle.disk_face.specs.Listing.{IsTableListing}
use Rattle.wal_recovery.specs.declared.listing.Sides.{Sides}
use Rattle.wal_recovery.specs.Sides.{AreListings}
use Rattle.wal_recovery.proofs.Laws.{IsListedOn}
use Rattle.flush_table.specs.Removing.{segment_places, table_places, covered_places, IsCoveredBy}
use Rattle.flush_table.specs.Settling.{AreUpTo}

-- ---- what is in a list, and in the list of its places

contains_map : {X Y : Type 0} (f : X → Y) (xs : List X) (x : X) → Contains xs x → Contains (map f xs) (f x)
contains_map f xs x (i, lt, is) = (i, omega (arith, lt, length-map xs f), get_or-map f xs i x (f x) lt ∙ ap f is)

pub map_contains : {X Y : Type 0} (f : X → Y) (xs : List X) (y : Y) → Contains (map f xs) y → (x : X) × Contains xs x × (y ≡ f x)
map_contains f [] y at = absurd (none_within y at)
map_contains f (x ∷ xs) y (i, lt, is) =
    let below : i < length (x ∷ xs) = omega (arith, lt, length-map (x ∷ xs) f) in
    (get_or (x ∷ xs) i x, Contains-get_or (x ∷ xs) i x below, sym is ∙ get_or-map f (x ∷ xs) i x y below)

-- ---- the places

module _ (sides : Sides) (tables : List TableListed) where
  pub place_of : (side : Side) (item : Listed) → IsListedOn sides side item → Contains (covered_places sides tables) (segment side item.name)
  place_of Primary item at =
      Contains-append_left (segment_places Primary sides.primary ++ segment_places Secondary sides.secondary) (table_places tables) (segment Primary item.name)
      (Contains-append_left (segment_places Primary sides.primary) (segment_places Secondary sides.secondary) (segment Primary item.name)
      (contains_map (λ (l : Listed). segment Primary l.name) sides.primary item at))
  place_of Secondary item at =
      Contains-append_left (segment_places Primary sides.primary ++ segment_places Secondary sides.secondary) (table_places tables) (segment Secondary item.name)
      (Contains-append_right (segment_places Primary sides.primary) (segment_places Secondary sides.secondary) (segment Secondary item.name)
      (contains_map (λ (l : Listed). segment Secondary l.name) sides.secondary item at))

  pub table_place_of : (item : TableListed) → Contains tables item → Contains (covered_places sides tables) (table item.upto)
  table_place_of item at =
      Contains-append_right (segment_places Primary sides.primary ++ segment_places Secondary sides.secondary) (table_places tables) (table item.upto)
      (contains_map (λ (l : TableListed). table l.upto) tables item at)

  -- each is that of a listed segment, or of one of the tables
  abbrev pub IsOneOf : Place → Type 0
  IsOneOf p = ((side : Side) × (item : Listed) × IsListedOn sides side item × (p ≡ segment side item.name))
      ⊎ ((item : TableListed) × Contains tables item × (p ≡ table item.upto))

  pub one_of : (p : Place) → Contains (covered_places sides tables) p → IsOneOf p
  one_of p at = elim (Contains-append_cases (segment_places Primary sides.primary ++ segment_places Secondary sides.secondary) (table_places tables) p at) [
    | inr here ↦ inr (map_contains (λ (l : TableListed). table l.upto) tables p here)
    | inl on ↦ elim (Contains-append_cases (segment_places Primary sides.primary) (segment_places Secondary sides.secondary) p on) [
      | inl one ↦ let m = map_contains (λ (l : Listed). segment Primary l.name) sides.primary p one in inl (Primary, m.0, m.1, m.2)
      | inr other ↦ let m = map_contains (λ (l : Listed). segment Secondary l.name) sides.secondary p other in inl (Secondary, m.0, m.1, m.2)
    ]
  ]

-- a listed segment is among those of both sides
pub on_both : (sides : Sides) (side : Side) (item : Listed) → IsListedOn sides side item → Contains (sides.primary ++ sides.secondary) item
on_both sides Primary item at = Contains-append_left sides.primary sides.secondary item at
on_both sides Secondary item at = Contains-append_right sides.primary sides.secondary item at

pub both_on : (sides : Sides) (item : Listed) → Contains (sides.primary ++ sides.secondary) item → (side : Side) × IsListedOn sides side item
both_on sides item at = elim (Contains-append_cases sides.primary sides.secondary item at) [ inl one ↦ (Primary, one) | inr other ↦ (Secondary, other) ]

-- where all segments are up to a WAL, and the tables below, all are covered by that number
pub are_covered : (sides : Sides) (tables : List TableListed) (wal upto : ℕ) → AreUpTo wal (sides.primary ++ sides.secondary) → wal ≤ upto
    → ((item : TableListed) → Contains tables item → item.upto < upto) → (p : Place) → Contains (covered_places sides tables) p → IsCoveredBy upto p
are_covered sides tables wal upto up low below p at = elim (one_of sides tables p at) [
  | inl (side, item, on, is) ↦ subst (IsCoveredBy upto) (sym is) (omega (arith, up item (on_both sides side item on), low))
  | inr (item, here, is) ↦ subst (IsCoveredBy upto) (sym is) (below item here)
]

-- each of them has a file
pub listed_there : (files : Files) (sides : Sides) (tables : List TableListed) → AreListings files sides → IsTableListing files tables → (p : Place)
    → Contains (covered_places sides tables) p → IsSome (files p)
listed_there files sides tables listings listing p at = elim (one_of sides tables p at) [
  | inl (side, item, on, is) ↦ subst (λ (q : Place). IsSome (files q)) (sym is) (on_side side item on)
  | inr (item, here, is) ↦ let h = (listing item).0 here in subst (λ (q : Place). IsSome (files q)) (sym is) (subst IsSome (sym h.1.1) refl)
]
  where
    on_side : (side : Side) (item : Listed) → IsListedOn sides side item → IsSome (files (segment side item.name))
    on_side Primary item on = let h = (listings.primary item).0 on in subst IsSome (sym h.1.1) refl
    on_side Secondary item on = let h = (listings.secondary item).0 on in subst IsSome (sym h.1.1) refl
