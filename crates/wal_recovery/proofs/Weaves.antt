-- Two ascending listings that are put into one row, item by item: the row ascends, and has just what they have.
use Rattle.wal_base.proofs.Laws.{within_cases, within_head, within_tail}
use Rattle.std.proofs.Common.{◌≡◌, ◌⊎◌, inl, inr, ◌++◌, List, [], ◌∷◌, length, Contains, subst, sym, ap, ◌∙◌, refl, arith}
use Rattle.disk_face.specs.declared.Side.{Side}
use Rattle.disk_face.specs.declared.Side.TheVariants.{Primary, Secondary}
use Rattle.disk_face.specs.declared.SegName.{SegName}
use Rattle.disk_face.specs.declared.Listed.{Listed}
use Rattle.disk_face.specs.Listing.{IsBefore, IsAscending}
use Rattle.disk_face.proofs.Laws.{before_trans, not_before_itself, AllPairs-head, AllPairs-tail}
use Rattle.segment_merge.proofs.Laws.{none_within}
use Rattle.wal_recovery.specs.declared.listing.Found.{Found}
use Rattle.wal_recovery.specs.Rows.{item_of, Ascends, IsBeforeHead, Takes, Weaves}

-- one segment more
pub weaves_more : (row : List Found) (ones others ro rs a b : List Listed) (f : Found) → Weaves row ones others ro rs → Takes f ro rs a b
    → Weaves (row ++ f ∷ []) ones others a b
unfolding Weaves
weaves_more [] ones others ro rs a b f w t =
    (a, b, subst (λ x. Takes f x others a b) (sym w.0) (subst (λ y. Takes f ro y a b) (sym w.1) t), (refl, refl))
weaves_more (h ∷ row) ones others ro rs a b f w t = (w.0, w.1, w.2, weaves_more row w.0 w.1 ro rs a b f w.3 t)

-- the listing of a side
abbrev pub on : Side → List Listed → List Listed → List Listed
on Primary ones others = ones
on Secondary ones others = others

-- an item of a side's listing, as a segment of the row
abbrev pub found_on : Side → Listed → Found
found_on side item = record { side = side; name = item.name; len = item.len }

-- the name stands before each item
abbrev pub IsBeforeItems : SegName → List Listed → Type 0
IsBeforeItems name items = (item : Listed) → Contains items item → IsBefore name item.name

pub first_before : (x : Listed) (xs : List Listed) → IsAscending (x ∷ xs) → IsBeforeItems x.name xs
first_before x xs asc item at =
    subst (λ (y : Listed). IsBefore x.name y.name) at.2 (AllPairs-head (λ (a b : Listed). IsBefore a.name b.name) x xs asc at.0 item at.1)

rest_ascends : (x : Listed) (xs : List Listed) → IsAscending (x ∷ xs) → IsAscending xs
rest_ascends x xs asc = AllPairs-tail (λ (a b : Listed). IsBefore a.name b.name) x xs asc

before_items : (name : SegName) (items : List Listed) → IsAscending items → IsBeforeHead name items → IsBeforeItems name items
before_items name [] asc h item at = absurd (none_within item at)
before_items name (x ∷ xs) asc h item at = elim (within_cases x xs item at) [
  | inl e ↦ subst (λ (y : Listed). IsBefore name y.name) e h
  | inr later ↦ before_trans name x.name item.name h (first_before x xs asc item later)
]

-- What taking one segment means, without regard to its side.
record Taken (f : Found) (ones others a b : List Listed) : Type 0 where
  here : Contains (on f.side ones others) (item_of f)
  sub : (side : Side) (item : Listed) → Contains (on side a b) item → Contains (on side ones others) item
  cases : (side : Side) (item : Listed) → Contains (on side ones others) item → (f ≡ found_on side item) ⊎ Contains (on side a b) item
  before : (side : Side) → IsBeforeItems f.name (on side a b)
  ones_ascend : IsAscending a
  others_ascend : IsAscending b

taken : (f : Found) (ones others a b : List Listed) → Takes f ones others a b → IsAscending ones → IsAscending others → Taken f ones others a b
taken f ones others a b (inl (is, cut, same, head)) up down =
    let up' : IsAscending (item_of f ∷ a) = subst IsAscending cut up in
    let down' : IsAscending b = subst IsAscending same down in
    record {
      here = subst (λ s. Contains (on s ones others) (item_of f)) (sym is) (subst (λ xs. Contains xs (item_of f)) (sym cut) (within_head (item_of f) a));
      sub = sub_of;
      cases = cases_of;
      before = before_of down' up';
      ones_ascend = rest_ascends (item_of f) a up';
      others_ascend = down';
    }
  where
    sub_of : (side : Side) (item : Listed) → Contains (on side a b) item → Contains (on side ones others) item
    sub_of Primary item at = subst (λ xs. Contains xs item) (sym cut) (within_tail (item_of f) a item at)
    sub_of Secondary item at = subst (λ xs. Contains xs item) (sym same) at

    cases_of : (side : Side) (item : Listed) → Contains (on side ones others) item → (f ≡ found_on side item) ⊎ Contains (on side a b) item
    cases_of Primary item at = elim (within_cases (item_of f) a item (subst (λ xs. Contains xs item) cut at)) [
      | inl e ↦ inl (λ i. record { side = is i; name = (e i).name; len = (e i).len })
      | inr later ↦ inr later
    ]
    cases_of Secondary item at = inr (subst (λ xs. Contains xs item) same at)

    before_of : IsAscending b → IsAscending (item_of f ∷ a) → (side : Side) → IsBeforeItems f.name (on side a b)
    before_of d u Primary = first_before (item_of f) a u
    before_of d u Secondary = before_items f.name b d head
taken f ones others a b (inr (is, cut, same, head)) up down =
    let up' : IsAscending a = subst IsAscending same up in
    let down' : IsAscending (item_of f ∷ b) = subst IsAscending cut down in
    record {
      here = subst (λ s. Contains (on s ones others) (item_of f)) (sym is) (subst (λ xs. Contains xs (item_of f)) (sym cut) (within_head (item_of f) b));
      sub = sub_of;
      cases = cases_of;
      before = before_of down' up';
      ones_ascend = up';
      others_ascend = rest_ascends (item_of f) b down';
    }
  where
    sub_of : (side : Side) (item : Listed) → Contains (on side a b) item → Contains (on side ones others) item
    sub_of Primary item at = subst (λ xs. Contains xs item) (sym same) at
    sub_of Secondary item at = subst (λ xs. Contains xs item) (sym cut) (within_tail (item_of f) b item at)

    cases_of : (side : Side) (item : Listed) → Contains (on side ones others) item → (f ≡ found_on side item) ⊎ Contains (on side a b) item
    cases_of Primary item at = inr (subst (λ xs. Contains xs item) same at)
    cases_of Secondary item at = elim (within_cases (item_of f) b item (subst (λ xs. Contains xs item) cut at)) [
      | inl e ↦ inl (λ i. record { side = is i; name = (e i).name; len = (e i).len })
      | inr later ↦ inr later
    ]

    before_of : IsAscending (item_of f ∷ b) → IsAscending a → (side : Side) → IsBeforeItems f.name (on side a b)
    before_of d u Primary = before_items f.name a u head
    before_of d u Secondary = first_before (item_of f) b d

-- ---- the row

-- a segment of the row was an item of its side
pub row_from : (row : List Found) (ones others ro rs : List Listed) → Weaves row ones others ro rs → IsAscending ones → IsAscending others
    → (g : Found) → Contains row g
    → Contains (on g.side ones others) (item_of g)
unfolding Weaves
row_from [] ones others ro rs w up down g at = absurd (none_within g at)
row_from (f ∷ row) ones others ro rs w up down g at =
    let k = taken f ones others w.0 w.1 w.2 up down in
    elim (within_cases f row g at) [
      | inl e ↦ subst (λ (h : Found). Contains (on h.side ones others) (item_of h)) e k.here
      | inr later ↦ k.sub g.side (item_of g) (row_from row w.0 w.1 ro rs w.3 k.ones_ascend k.others_ascend g later)
    ]

-- an item of a side is in the row, or is left
pub row_to : (row : List Found) (ones others ro rs : List Listed) → Weaves row ones others ro rs → IsAscending ones → IsAscending others
    → (side : Side) (item : Listed)
    → Contains (on side ones others) item → Contains row (found_on side item) ⊎ Contains (on side ro rs) item
unfolding Weaves
row_to [] ones others ro rs w up down side item at = inr (subst (λ xs. Contains (on side xs rs) item) w.0
    (subst (λ xs. Contains (on side ones xs) item) w.1 at))
row_to (f ∷ row) ones others ro rs w up down side item at =
    let k = taken f ones others w.0 w.1 w.2 up down in
    elim (k.cases side item at) [
      | inl e ↦ inl (subst (λ (h : Found). Contains (f ∷ row) h) e (within_head f row))
      | inr later ↦ elim (row_to row w.0 w.1 ro rs w.3 k.ones_ascend k.others_ascend side item later) [
        | inl within ↦ inl (within_tail f row (found_on side item) within)
        | inr left ↦ inr left
      ]
    ]

-- what is left was an item of its side
pub left_from : (row : List Found) (ones others ro rs : List Listed) → Weaves row ones others ro rs → IsAscending ones → IsAscending others
    → (side : Side) (item : Listed)
    → Contains (on side ro rs) item → Contains (on side ones others) item
unfolding Weaves
left_from [] ones others ro rs w up down side item at = subst (λ xs. Contains (on side xs others) item) (sym w.0)
    (subst (λ xs. Contains (on side ro xs) item) (sym w.1) at)
left_from (f ∷ row) ones others ro rs w up down side item at =
    let k = taken f ones others w.0 w.1 w.2 up down in
    k.sub side item (left_from row w.0 w.1 ro rs w.3 k.ones_ascend k.others_ascend side item at)

-- what is left ascends
pub left_ascends : (row : List Found) (ones others ro rs : List Listed) → Weaves row ones others ro rs → IsAscending ones
    → IsAscending others → IsAscending ro × IsAscending rs
unfolding Weaves
left_ascends [] ones others ro rs w up down = (subst IsAscending w.0 up, subst IsAscending w.1 down)
left_ascends (f ∷ row) ones others ro rs w up down =
    let k = taken f ones others w.0 w.1 w.2 up down in
    left_ascends row w.0 w.1 ro rs w.3 k.ones_ascend k.others_ascend

pub row_ascends : (row : List Found) (ones others ro rs : List Listed) → Weaves row ones others ro rs → IsAscending ones → IsAscending others → Ascends row
unfolding Weaves Ascends
row_ascends [] ones others ro rs w up down = tt
row_ascends (f ∷ row) ones others ro rs w up down =
    let k = taken f ones others w.0 w.1 w.2 up down in (
      λ g at. k.before g.side (item_of g) (row_from row w.0 w.1 ro rs w.3 k.ones_ascend k.others_ascend g at),
      row_ascends row w.0 w.1 ro rs w.3 k.ones_ascend k.others_ascend,
    )

-- an ascending row has each name once
pub one_name : (row : List Found) (f g : Found) → Ascends row → Contains row f → Contains row g → f.name ≡ g.name → f ≡ g
unfolding Ascends
one_name [] f g up a b e = absurd (none_within f a)
one_name (h ∷ row) f g up a b e = elim (within_cases h row f a) [
  | inl hf ↦ elim (within_cases h row g b) [
    | inl hg ↦ sym hf ∙ hg
    | inr later ↦ absurd (not_before_itself h.name g.name (up.0 g later) (ap (λ (x : Found). x.name) hf ∙ e))
  ]
  | inr later ↦ elim (within_cases h row g b) [
    | inl hg ↦ absurd (not_before_itself h.name f.name (up.0 f later) (ap (λ (x : Found). x.name) hg ∙ sym e))
    | inr behind ↦ one_name row f g up.1 later behind e
  ]
]

-- ---- of no name

-- nothing is left of no name
pub none_kept : (names kept : List Listed) → names ≡ [] → ((item : Listed) → Contains kept item → Contains names item) → kept ≡ []
none_kept names [] none within = refl
none_kept names (item ∷ kept) none within =
    let at = within item (0, omega arith, refl) in
    absurd (omega (arith, at.1, ap (λ (l : List Listed). length l) none))

-- and nothing is woven of it
pub woven_of_none : (row : List Found) (ones others : List Listed) → Weaves row ones others [] [] → ones ≡ [] → others ≡ [] → row ≡ []
unfolding Weaves
woven_of_none [] ones others w none bare = refl
woven_of_none (f ∷ row) ones others (a, b, inl takes, rest) none bare = absurd (clash (sym takes.1 ∙ none))
  where
    clash : item_of f ∷ a ≡ [] → ⊥
    clash e = cc
woven_of_none (f ∷ row) ones others (a, b, inr takes, rest) none bare = absurd (clash (sym takes.1 ∙ bare))
  where
    clash : item_of f ∷ b ≡ [] → ⊥
    clash e = cc
