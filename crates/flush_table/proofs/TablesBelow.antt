-- What a search for a number in a listing of tables cuts off: the tables up to there are those below it.
use Rattle.std.proofs.Common.{◌≡◌, ◌⊎◌, inl, inr, ◌≤◌, ◌<◌, ℕ, true, false, ltb, ltb-true, ltb-false, List, length, take, get_or, Contains, sym, subst, ap, ◌∙◌, arith}
use Rattle.std.specs.List.Sorted.{IsPartitionedBy, IsPartitionPoint}
use Rattle.std.proofs.lemmas.List.{length-take, get_or-take}
use Rattle.std.proofs.lemmas.List.Sorted.{IsPartitionedBy-ltb}
use Rattle.disk_face.specs.declared.TableListed.{TableListed}
use Rattle.disk_face.specs.Listing.{AreTablesAscending}

less_or_same : (i j : ℕ) → i ≤ j → (i < j) ⊎ (i ≡ j)
less_or_same i j le = grind arith

less_or_more : (i j : ℕ) → (i < j) ⊎ (j ≤ i)
less_or_more i j = grind arith

module _ (tables : List TableListed) (upto : ℕ) (up : AreTablesAscending tables) where
  rising : (i j : ℕ) (d : TableListed) → i ≤ j → j < length tables → (get_or tables i d).upto ≤ (get_or tables j d).upto
  rising i j d le lt = elim (less_or_same i j le) [
    | inl less ↦ omega (arith, up i j d less lt)
    | inr same ↦ omega (arith, ap (λ (k : ℕ). (get_or tables k d).upto) same)
  ]

  pub partitioned : IsPartitionedBy (λ (item : TableListed). ltb item.upto upto) tables
  partitioned = IsPartitionedBy-ltb (λ (item : TableListed). item.upto) tables upto rising

  module _ (place : ℕ) (point : IsPartitionPoint (λ (item : TableListed). ltb item.upto upto ≡ true) (λ (item : TableListed). ltb item.upto upto ≡ false) tables place) where
    pub taken_below : (item : TableListed) → Contains (take place tables) item → item.upto < upto
    taken_below item (k, lt, is) =
        let below : k < place = omega (arith, lt, length-take place tables) in
        let here : get_or tables k item ≡ item = sym (get_or-take place tables k item below) ∙ is in
        subst (λ (x : TableListed). x.upto < upto) here
        (ltb-true (get_or tables k item).upto upto (point.0 k item (omega arith) below))

    pub taken_all : (item : TableListed) → Contains tables item → item.upto < upto → Contains (take place tables) item
    taken_all item (k, lt, is) low = elim (less_or_more k place) [
      | inl below ↦ (k, omega (arith, lt, below, length-take place tables), get_or-take place tables k item below ∙ is)
      | inr le ↦ absurd (omega (arith, low, ap (λ (x : TableListed). x.upto) is, ltb-false (get_or tables k item).upto upto (point.1 k item le lt)))
    ]
