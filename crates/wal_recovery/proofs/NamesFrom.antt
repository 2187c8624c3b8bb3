-- What a search for a WAL's number in a listing cuts off: the names from there on have all the segments of that WAL and of later ones.
use Rattle.std.proofs.Common.{◌≡◌, ◌⊎◌, inl, inr, ◌+◌, ◌-◌, ◌++◌, ◌≤◌, ◌<◌, ℕ, true, false, ltb, ltb-true, ltb-false, List, length, take, drop, get_or, Contains, sym, subst, ap, ◌∙◌, arith}
use Rattle.std.specs.List.Sorted.{IsPartitionedBy, IsPartitionPoint}
use Rattle.std.proofs.lemmas.List.{length-drop, get_or-drop, take-append-drop}
use Rattle.std.proofs.lemmas.List.Sums.{sum_by-append}
use Rattle.std.proofs.lemmas.List.Sorted.{IsPartitionedBy-ltb}
use Rattle.disk_face.specs.declared.SegName.{SegName}
use Rattle.disk_face.specs.declared.Listed.{Listed}
use Rattle.disk_face.specs.Listing.{IsAscending}
use Rattle.disk_face.specs.Asked.{name_eq, length_among}
use Rattle.std.specs.Prelude.{if◌then◌else◌}
use Rattle.wal_recovery.proofs.Groups.{wal_up}

less_or_same : (i j : ℕ) → i ≤ j → (i < j) ⊎ (i ≡ j)
less_or_same i j le = grind arith

module _ (names : List Listed) (least : ℕ) (up : IsAscending names) where
  rising : (i j : ℕ) (d : Listed) → i ≤ j → j < length names → (get_or names i d).name.wal ≤ (get_or names j d).name.wal
  rising i j d le lt = elim (less_or_same i j le) [
    | inl less ↦ wal_up (get_or names i d).name (get_or names j d).name (up i j d less lt)
    | inr same ↦ omega (arith, ap (λ (k : ℕ). (get_or names k d).name.wal) same)
  ]

  pub partitioned : IsPartitionedBy (λ (item : Listed). ltb item.name.wal least) names
  partitioned = IsPartitionedBy-ltb (λ (item : Listed). item.name.wal) names least rising

  module _ (place : ℕ) (point : IsPartitionPoint (λ (item : Listed). ltb item.name.wal least ≡ true) (λ (item : Listed). ltb item.name.wal least ≡ false) names place) where
    pub kept_low : (item : Listed) → Contains (drop place names) item → least ≤ item.name.wal
    kept_low item (k, lt, is) =
        let below : place + k < length names = omega (arith, lt, length-drop place names) in
        let here : get_or names (place + k) item ≡ item = sym (get_or-drop place names k item) ∙ is in
        subst (λ (x : Listed). least ≤ x.name.wal) here (ltb-false (get_or names (place + k) item).name.wal least (point.1 (place + k) item (omega arith) below))

    pub kept_all : (item : Listed) → Contains names item → least ≤ item.name.wal → Contains (drop place names) item
    kept_all item (k, lt, is) low = elim (less_or_same_or k place) [
      | inl below ↦ absurd (omega (arith, low, ap (λ (x : Listed). x.name.wal) is, ltb-true (get_or names k item).name.wal least (point.0 k item (omega arith) below)))
      | inr le ↦ (
        k - place,
        omega (arith, lt, le, length-drop place names),
        get_or-drop place names (k - place) item ∙ ap (λ (n : ℕ). get_or names n item) (omega (arith, le)) ∙ is,
      )
    ]
      where
        less_or_same_or : (i j : ℕ) → (i < j) ⊎ (j ≤ i)
        less_or_same_or i j = grind arith

    pub kept_shorter : (name : SegName) → length_among name (drop place names) ≤ length_among name names
    kept_shorter name =
        let both : length_among name (take place names ++ drop place names) ≡ length_among name (take place names) + length_among name (drop place names) =
        sum_by-append (λ (item : Listed). if name_eq name item.name then item.len else 0) (take place names) (drop place names) in
        omega (arith, both, ap (length_among name) (take-append-drop place names))
