-- What two listings of a disk say of the directories: which segments they have, and which name stands on both sides.
use Rattle.wal_base.proofs.Laws.{within_cases, within_head}
use Rattle.std.proofs.Common.{◌≡◌, ◌⊎◌, inl, inr, ◌≤◌, ◌<◌, ℕ, Bool, true, false, List, [], ◌∷◌, Option, Some, None, All, Contains, length, get_or, subst, sym, ap, ◌∙◌, refl, arith}
use Rattle.std.proofs.lemmas.List.Elements.{Contains-get_or}
use Rattle.disk_face.specs.declared.Side.{Side}
use Rattle.disk_face.specs.declared.Side.TheVariants.{Primary, Secondary}
use Rattle.disk_face.specs.declared.SegName.{SegName}
use Rattle.disk_face.specs.declared.Listed.{Listed}
use Rattle.disk_face.specs.View.{segment, File, Files}
use Rattle.disk_face.specs.Image.{as_read, dirs_as_read}
use Rattle.disk_face.specs.Listing.{IsBefore, IsAscending, IsSegmentName, AreSegmentNames, IsListing}
use Rattle.disk_face.proofs.Laws.{read_created}
use Rattle.segment_merge.proofs.Laws.{none_within}
use Rattle.wal_recovery.specs.declared.listing.Found.{Found}
use Rattle.wal_recovery.specs.Listing.{IsTwice, IsDuplicate, name_in}
use Rattle.wal_recovery.specs.declared.fault.RecoverFault.{RecoverFault}
use Rattle.wal_recovery.specs.declared.fault.RecoverFault.TheVariants as faults
use Rattle.wal_recovery.specs.Answers.{DiskMemoryOr}
use Rattle.wal_recovery.specs.Rows.{item_of, IsRowOf, Weaves, Meets, RefusesTwice, MeetsOrMemory}
use Rattle.wal_recovery.proofs.Weaves.{on, found_on, row_from, row_to, left_from, left_ascends, row_ascends, one_name, first_before}

-- a segment that reads is created
pub read_open : (side : Side) (name : SegName) (o : Option File) (bytes : List ℕ) → as_read (segment side name) o ≡ Some bytes
    → (f : File) × (o ≡ Some f) × (f.created ≡ true) × (f.reads ≡ bytes)
read_open side name None bytes e = absurd (let no : None ≡ Some bytes = e in cc)
read_open side name (Some f) bytes e = go f.created refl
  where
    go : (b : Bool) → f.created ≡ b → (g : File) × (Some f ≡ Some g) × (g.created ≡ true) × (g.reads ≡ bytes)
    go true is = let k : Some f.reads ≡ Some bytes = rw is at e in (f, refl, is, cc)
    go false is = let k : None ≡ Some bytes = rw is at e in cc

-- both sides' listings
abbrev pub AreListed : Files → List Listed → List Listed → Type 0
AreListed files ones others = (side : Side) → IsListing files side (on side ones others)

pub both_listed : (files : Files) (ones others : List Listed) → IsListing files Primary ones → IsListing files Secondary others → AreListed files ones others
both_listed files ones others p s Primary = p
both_listed files ones others p s Secondary = s

none_left : (side : Side) (item : Listed) → Contains (on side [] []) item → ⊥
none_left Primary item at = none_within item at
none_left Secondary item at = none_within item at

module _ (files : Files) (ones others : List Listed) (up : IsAscending ones) (down : IsAscending others) (listed : AreListed files ones others) where
  pub row_of : (row : List Found) → Weaves row ones others [] [] → IsRowOf files row
  row_of row w f = (
    λ at. (listed f.side (item_of f)).0 (row_from row ones others [] [] w up down f at),
    λ is. elim (row_to row ones others [] [] w up down f.side (item_of f) ((listed f.side (item_of f)).1 is)) [
      | inl within ↦ within
      | inr left ↦ absurd (none_left f.side (item_of f) left)
    ],
  )

  -- an item of a side reads
  item_reads : (side : Side) (item : Listed) → Contains (on side ones others) item → IsSegmentName item.name × (bytes : List ℕ)
      × (dirs_as_read files (segment side item.name) ≡ Some bytes)
  item_reads side item at =
      let there = (listed side item).0 at in
      let has = there.1 in
      (there.0, has.0.reads, read_created (segment side item.name) (files (segment side item.name)) has.0 has.1 has.2)

  -- what reads is an item of its side
  reads_item : (side : Side) (name : SegName) (bytes : List ℕ) → IsSegmentName name → dirs_as_read files (segment side name) ≡ Some bytes
      → (item : Listed) × (item.name ≡ name) × Contains (on side ones others) item
  reads_item side name bytes good is =
      let f = read_open side name (files (segment side name)) bytes is in
      let item : Listed = record { name = name; len = length f.0.reads } in
      (item, refl, (listed side item).1 (good, (f.0, f.1, f.2, refl)))

  -- each name that both sides have stands at or after the name that they meet at
  behind : (row : List Found) (x y : Listed) (xs ys : List Listed) (name : SegName) → Weaves row ones others (x ∷ xs) (y ∷ ys) → x.name ≡ name → y.name ≡ name
      → (one other : Listed) → Contains ones one → Contains others other → one.name ≡ other.name → (one.name ≡ name) ⊎ IsBefore name one.name
  behind row x y xs ys name w ex ey one other a b e = elim (row_to row ones others (x ∷ xs) (y ∷ ys) w up down Primary one a) [
    | inr left ↦ elim (within_cases x xs one left) [
      | inl is ↦ inl (ap (λ (z : Listed). z.name) (sym is) ∙ ex)
      | inr later ↦ inr (subst (λ n. IsBefore n one.name) ex (first_before x xs (left_ascends row ones others (x ∷ xs) (y ∷ ys) w up down).0 one later))
    ]
    | inl within ↦ elim (row_to row ones others (x ∷ xs) (y ∷ ys) w up down Secondary other b) [
      | inr left ↦ elim (within_cases y ys other left) [
        | inl is ↦ inl (e ∙ ap (λ (z : Listed). z.name) (sym is) ∙ ey)
        | inr later ↦ inr (subst (λ n. IsBefore n one.name) ey (subst (λ n. IsBefore y.name n) (sym e)
            (first_before y ys (left_ascends row ones others (x ∷ xs) (y ∷ ys) w up down).1 other later)))
      ]
      | inl also ↦
          let same : found_on Primary one ≡ found_on Secondary other = one_name row (found_on Primary one) (found_on Secondary other)
          (row_ascends row ones others (x ∷ xs) (y ∷ ys) w up down) within also e in
          let sides : Primary ≡ Secondary = ap (λ (f : Found). f.side) same in absurd cc
    ]
  ]

  met_duplicate : (row : List Found) (x y : Listed) (xs ys : List Listed) (wal index : ℕ) → Weaves row ones others (x ∷ xs) (y ∷ ys)
      → x.name ≡ name_in wal index → y.name ≡ name_in wal index
      → IsDuplicate (dirs_as_read files) wal index
  met_duplicate row x y xs ys wal index w ex ey = record {
    twice =
        let one = item_reads Primary x (left_from row ones others (x ∷ xs) (y ∷ ys) w up down Primary x (within_head x xs)) in
        let two = item_reads Secondary y (left_from row ones others (x ∷ xs) (y ∷ ys) w up down Secondary y (within_head y ys)) in (
          subst IsSegmentName ex one.0,
          one.1,
          two.1,
          subst (λ n. dirs_as_read files (segment Primary n) ≡ Some one.1) ex one.2,
          subst (λ n. dirs_as_read files (segment Secondary n) ≡ Some two.1) ey two.2,
        );
    least = least_of;
  }
    where
      ordered : (w' i : ℕ) (n : SegName) → n ≡ name_in w' i → (n ≡ name_in wal index) ⊎ IsBefore (name_in wal index) n → (wal < w') ⊎ ((wal ≡ w') × (index ≤ i))
      ordered w' i n is (inl e) =
          let same : name_in w' i ≡ name_in wal index = sym is ∙ e in
          inr (sym (ap (λ (m : SegName). m.wal) same), let le : i ≡ index = ap (λ (m : SegName). m.index) same in omega (arith, le))
      ordered w' i n is (inr before) = above (subst (λ m. IsBefore (name_in wal index) m) is before)
        where
          above : IsBefore (name_in wal index) (name_in w' i) → (wal < w') ⊎ ((wal ≡ w') × (index ≤ i))
          above (inl low) = inl low
          above (inr (same, low)) = inr (same, omega (arith, low))

      least_of : (w' i : ℕ) → IsTwice (dirs_as_read files) w' i → (wal < w') ⊎ ((wal ≡ w') × (index ≤ i))
      least_of w' i twice =
          let one = reads_item Primary (name_in w' i) twice.1 twice.0 twice.3 in
          let two = reads_item Secondary (name_in w' i) twice.2 twice.0 twice.4 in
          ordered w' i one.0.name one.1 (behind row x y xs ys (name_in wal index) w ex ey one.0 two.0 one.2 two.2 (one.1 ∙ sym two.1))

  -- where two listings meet, a name stands on both sides
  pub meets_duplicate : (wal index : ℕ) → Meets (name_in wal index) ones others → IsDuplicate (dirs_as_read files) wal index
  meets_duplicate wal index (row, [], b, w, both) = absurd both
  meets_duplicate wal index (row, x ∷ xs, [], w, both) = absurd both
  meets_duplicate wal index (row, x ∷ xs, y ∷ ys, w, both) = met_duplicate row x y xs ys wal index w both.0 both.1

  -- so what is refused is a name that stands on both sides
  pub met_refused : (fault : RecoverFault) → MeetsOrMemory ones others fault → DiskMemoryOr (RefusesTwice (dirs_as_read files)) fault
  met_refused (faults.Disk side) met = tt
  met_refused (faults.DuplicateSegment wal index) met = meets_duplicate wal index met
  met_refused (faults.BadBatch wal index place fault) met = absurd met
  met_refused (faults.Gap wal index expected found) met = absurd met
  met_refused (faults.Corrupt wal index place shown_at) met = absurd met
  met_refused (faults.Conflict wal index first) met = absurd met
  met_refused faults.NoMemory met = tt

-- each name of the row is one of a segment
pub row_named : (row : List Found) (ones others : List Listed) → Weaves row ones others [] [] → IsAscending ones → IsAscending others
    → AreSegmentNames ones → AreSegmentNames others
    → All (λ (f : Found). IsSegmentName f.name) row
row_named row ones others w up down one_names other_names k d lt = named (get_or row k d) (Contains-get_or row k d lt)
  where
    on_side : (side : Side) (item : Listed) → Contains (on side ones others) item → IsSegmentName item.name
    on_side Primary item at = subst (λ (x : Listed). IsSegmentName x.name) at.2 (one_names at.0 item at.1)
    on_side Secondary item at = subst (λ (x : Listed). IsSegmentName x.name) at.2 (other_names at.0 item at.1)

    named : (f : Found) → Contains row f → IsSegmentName f.name
    named f at = on_side f.side (item_of f) (row_from row ones others [] [] w up down f at)
