-- A row cut into WALs from its back: each segment joins the WAL after it or begins one. The WALs are the listing of the directories, and those into which the row is cut from its front.
use Rattle.wal_base.proofs.Laws.{within_cases, within_head, within_tail}
use Rattle.std.proofs.Common.{◌≡◌, ◌≢◌, ◌⊎◌, inl, inr, ℕ, suc, ◌≤◌, ◌<◌, List, [], ◌∷◌, ◌++◌, All, Contains, map, subst, sym, ap, ◌∙◌, refl, arith}
use Rattle.disk_face.specs.View.{Files}
use Rattle.disk_face.specs.Image.{dirs_as_read}
use Rattle.disk_face.specs.Listing.{IsBefore}
use Rattle.disk_face.proofs.Laws.{same_number}
use Rattle.segment_merge.proofs.Laws.{none_within}
use Rattle.wal_recovery.specs.declared.listing.Found.{Found}
use Rattle.wal_recovery.specs.declared.wals.FoundWal.{FoundWal}
use Rattle.wal_recovery.specs.Listing.{Stored, Wal, AreByIndex, AreByNumber, IsOf, IsListingOf}
use Rattle.wal_recovery.specs.Rows.{Ascends, IsRowOf, BeginsElsewhere, Groups, stored_in, wal_in, wals_in}
use Rattle.wal_recovery.proofs.Groups.{wal_up, index_up, IsStoredFound, found_stands, stands_found}

-- the segment is of the WAL, or of another one
abbrev pub IsOfOrNot : Found → Wal → Type 0
IsOfOrNot f wal = (f.name.wal ≡ wal.number) ⊎ (f.name.wal ≢ wal.number)

module _ (files : Files) where
  -- a WAL with one segment
  abbrev pub alone : Found → Wal
  alone f = record { number = f.name.wal; segments = stored_in files f ∷ [] }

  -- a WAL with one segment more at its front
  abbrev pub longer : Found → Wal → Wal
  longer f wal = record { number = wal.number; segments = stored_in files f ∷ wal.segments }

  abbrev pub joined : (f : Found) (wal : Wal) → List Wal → IsOfOrNot f wal → List Wal
  joined f wal wals (inl same) = longer f wal ∷ wals
  joined f wal wals (inr other) = alone f ∷ wal ∷ wals

  -- WALs with one segment more before them
  abbrev pub put : Found → List Wal → List Wal
  put f [] = alone f ∷ []
  put f (wal ∷ wals) = joined f wal wals (same_number f.name.wal wal.number)

  abbrev pub grouped : List Found → List Wal
  grouped [] = []
  grouped (f ∷ row) = put f (grouped row)

  -- ---- which segments the WALs have

  alone_of : (f : Found) (wal : Wal) (number : ℕ) (stored : Stored) → alone f ≡ wal → wal.number ≡ number → Contains wal.segments stored
      → (f.name.wal ≡ number) × (stored_in files f ≡ stored)
  alone_of f wal number stored e is within = elim (within_cases (stored_in files f) [] stored
      (subst (λ (w : Wal). Contains w.segments stored) (sym e) within)) [
        | inl here ↦ (ap (λ (w : Wal). w.number) e ∙ is, here)
        | inr later ↦ absurd (none_within stored later)
      ]

  of_put : (f : Found) (wals : List Wal) (number : ℕ) (stored : Stored) → IsOf (put f wals) number stored
      → ((f.name.wal ≡ number) × (stored_in files f ≡ stored)) ⊎ IsOf wals number stored
  of_put f [] number stored (w, at, is, within) = elim (within_cases (alone f) [] w at) [
    | inl e ↦ inl (alone_of f w number stored e is within)
    | inr later ↦ absurd (none_within w later)
  ]
  of_put f (wal ∷ wals) number stored of = go (same_number f.name.wal wal.number) of
    where
      go : (d : IsOfOrNot f wal) → IsOf (joined f wal wals d) number stored → ((f.name.wal ≡ number) × (stored_in files f ≡ stored))
          ⊎ IsOf (wal ∷ wals) number stored
      go (inl same) (w, at, is, within) = elim (within_cases (longer f wal) wals w at) [
        | inl e ↦ elim (within_cases (stored_in files f) wal.segments stored (subst (λ (x : Wal). Contains x.segments stored) (sym e) within)) [
          | inl here ↦ inl (same ∙ ap (λ (x : Wal). x.number) e ∙ is, here)
          | inr later ↦ inr (wal, within_head wal wals, ap (λ (x : Wal). x.number) e ∙ is, later)
        ]
        | inr behind ↦ inr (w, within_tail wal wals w behind, is, within)
      ]
      go (inr other) (w, at, is, within) = elim (within_cases (alone f) (wal ∷ wals) w at) [
        | inl e ↦ inl (alone_of f w number stored e is within)
        | inr behind ↦ inr (w, behind, is, within)
      ]

  first_in : (f : Found) (wals : List Wal) → IsOf (put f wals) f.name.wal (stored_in files f)
  first_in f [] = (alone f, within_head (alone f) [], refl, within_head (stored_in files f) [])
  first_in f (wal ∷ wals) = go (same_number f.name.wal wal.number)
    where
      go : (d : IsOfOrNot f wal) → IsOf (joined f wal wals d) f.name.wal (stored_in files f)
      go (inl same) = (longer f wal, within_head (longer f wal) wals, sym same, within_head (stored_in files f) wal.segments)
      go (inr other) = (alone f, within_head (alone f) (wal ∷ wals), refl, within_head (stored_in files f) [])

  later_in : (f : Found) (wals : List Wal) (number : ℕ) (stored : Stored) → IsOf wals number stored → IsOf (put f wals) number stored
  later_in f [] number stored (w, at, is, within) = absurd (none_within w at)
  later_in f (wal ∷ wals) number stored (w, at, is, within) = go (same_number f.name.wal wal.number)
    where
      go : (d : IsOfOrNot f wal) → IsOf (joined f wal wals d) number stored
      go (inl same) = elim (within_cases wal wals w at) [
        | inl e ↦ (
          longer f wal,
          within_head (longer f wal) wals,
          ap (λ (x : Wal). x.number) e
              ∙ is,
          within_tail (stored_in files f) wal.segments stored (subst (λ (x : Wal). Contains x.segments stored) (sym e) within),
        )
        | inr behind ↦ (w, within_tail (longer f wal) wals w behind, is, within)
      ]
      go (inr other) = (w, within_tail (alone f) (wal ∷ wals) w at, is, within)

  of_row : (row : List Found) (number : ℕ) (stored : Stored) → IsOf (grouped row) number stored → IsStoredFound files row number stored
  of_row [] number stored (w, at, is, within) = absurd (none_within w at)
  of_row (f ∷ row) number stored of = elim (of_put f (grouped row) number stored of) [
    | inl here ↦ (f, within_head f row, here.0, here.1)
    | inr later ↦ let u = of_row row number stored later in (u.0, within_tail f row u.0 u.1, u.2, u.3)
  ]

  in_wals : (row : List Found) (f : Found) → Contains row f → IsOf (grouped row) f.name.wal (stored_in files f)
  in_wals [] f at = absurd (none_within f at)
  in_wals (g ∷ row) f at = elim (within_cases g row f at) [
    | inl e ↦ subst (λ (x : Found). IsOf (put g (grouped row)) x.name.wal (stored_in files x)) e (first_in g (grouped row))
    | inr later ↦ later_in g (grouped row) f.name.wal (stored_in files f) (in_wals row f later)
  ]

  -- ---- their order

  index_from : (low : ℕ) (segments : List Stored) → AreByIndex 0 segments → ((s : Stored) → Contains segments s → low ≤ s.index) → AreByIndex low segments
  unfolding AreByIndex
  index_from low [] by each = tt
  index_from low (s ∷ segments) by each = (each s (within_head s segments), by.1)

  one_by_index : (stored : Stored) → AreByIndex 0 (stored ∷ [])
  unfolding AreByIndex
  one_by_index stored = (omega arith, tt)

  more_by_index : (stored : Stored) (segments : List Stored) → AreByIndex 0 segments
      → ((s : Stored) → Contains segments s → stored.index < s.index) → AreByIndex 0 (stored ∷ segments)
  unfolding AreByIndex
  more_by_index stored segments by each = (omega arith, index_from (suc stored.index) segments by each)

  some_first : (stored : Stored) (segments : List Stored) → stored ∷ segments ≢ []
  some_first stored segments e = absurd cc

  -- the segment stands before all that the WALs have
  abbrev IsAhead : Found → List Wal → Type 0
  IsAhead f wals = (number : ℕ) (stored : Stored) → IsOf wals number stored → f.name.wal ≡ number → f.name.index < stored.index

  by_number_put : (low : ℕ) (f : Found) (wals : List Wal) → low ≤ f.name.wal → IsAhead f wals → AreByNumber f.name.wal wals → AreByNumber low (put f wals)
  unfolding AreByNumber
  by_number_put low f [] le ahead by = (le, some_first (stored_in files f) [], one_by_index (stored_in files f), tt)
  by_number_put low f (wal ∷ wals) le ahead by = go (same_number f.name.wal wal.number)
    where
      go : (d : IsOfOrNot f wal) → AreByNumber low (joined f wal wals d)
      go (inl same) = (
        omega (arith, le, same),
        some_first (stored_in files f) wal.segments,
        more_by_index (stored_in files f) wal.segments by.2 (λ s at. ahead wal.number s (wal, within_head wal wals, refl, at) same),
        by.3,
      )
      go (inr other) = (le, some_first (stored_in files f) [], one_by_index (stored_in files f), (omega (arith, by.0, other), by.1, by.2, by.3))

  ahead_of : (f : Found) (row : List Found) → ((g : Found) → Contains row g → IsBefore f.name g.name) → IsAhead f (grouped row)
  ahead_of f row before number stored of is =
      let u = of_row row number stored of in
      let index : u.0.name.index ≡ stored.index = ap (λ (s : Stored). s.index) u.3 in
      let up : f.name.index < u.0.name.index = index_up f.name u.0.name (before u.0 u.1) (is ∙ sym u.2) in
      omega (arith, index, up)

  by_number : (low : ℕ) (row : List Found) → Ascends row → ((f : Found) → Contains row f → low ≤ f.name.wal) → AreByNumber low (grouped row)
  unfolding AreByNumber Ascends
  by_number low [] up each = tt
  by_number low (f ∷ row) up each =
      by_number_put low f (grouped row) (each f (within_head f row)) (ahead_of f row up.0)
      (by_number f.name.wal row up.1 (λ g at. wal_up f.name g.name (up.0 g at)))

  -- the WALs of the row are the listing of the directories as they read
  pub grouped_listing : (row : List Found) → Ascends row → IsRowOf files row → IsListingOf (dirs_as_read files) (grouped row)
  grouped_listing row up is = record {
    order = by_number 0 row up (λ f at. omega arith);
    same = λ number stored. (
      λ of. found_stands files row number stored is (of_row row number stored of),
      λ stands.
          let u = stands_found files row number stored is stands in
          let here = in_wals row u.0 u.1 in
          subst (λ (n : ℕ). IsOf (grouped row) n stored) u.2 (subst (λ (s : Stored). IsOf (grouped row) u.0.name.wal s) u.3 here),
    );
  }

  -- ---- the same WALs, cut from the front

  begins_with : (f : Found) (wals : List Wal) → (wal : Wal) × (later : List Wal) × (put f wals ≡ wal ∷ later) × (wal.number ≡ f.name.wal)
  begins_with f [] = (alone f, [], refl, refl)
  begins_with f (wal ∷ wals) = go (same_number f.name.wal wal.number)
    where
      go : (d : IsOfOrNot f wal) → (w : Wal) × (later : List Wal) × (joined f wal wals d ≡ w ∷ later) × (w.number ≡ f.name.wal)
      go (inl same) = (longer f wal, wals, refl, sym same)
      go (inr other) = (alone f, wal ∷ wals, refl, refl)

  joined_own : (f : Found) (wal : Wal) (wals : List Wal) (d : IsOfOrNot f wal) → f.name.wal ≡ wal.number → joined f wal wals d ≡ longer f wal ∷ wals
  joined_own f wal wals (inl same) own = refl
  joined_own f wal wals (inr other) own = absurd (other own)

  joined_other : (f : Found) (wal : Wal) (wals : List Wal) (d : IsOfOrNot f wal) → f.name.wal ≢ wal.number → joined f wal wals d ≡ alone f ∷ wal ∷ wals
  joined_other f wal wals (inl same) not = absurd (not same)
  joined_other f wal wals (inr other) not = refl

  put_alone : (f : Found) (later : List Found) → BeginsElsewhere f.name.wal later → put f (grouped later) ≡ alone f ∷ grouped later
  put_alone f [] other = refl
  put_alone f (g ∷ later) other =
      let b = begins_with g (grouped later) in
      ap (put f) b.2 ∙ joined_other f b.0 b.1 (same_number f.name.wal b.0.number) (λ e. other (sym b.3 ∙ sym e)) ∙ ap (λ (l : List Wal). alone f ∷ l) (sym b.2)

  one_group : (number : ℕ) (segments later : List Found) → segments ≢ [] → ((f : Found) → Contains segments f → f.name.wal ≡ number)
      → BeginsElsewhere number later
      → grouped (segments ++ later) ≡ record { number = number; segments = map (stored_in files) segments } ∷ grouped later
  one_group number [] later some own other = absurd (some refl)
  one_group number (f ∷ []) later some own other =
      let is : f.name.wal ≡ number = own f (within_head f []) in
      put_alone f later (subst (λ (n : ℕ). BeginsElsewhere n later) (sym is) other)
      ∙ ap (λ (n : ℕ). record { number = n; segments = stored_in files f ∷ [] } ∷ grouped later) is
  one_group number (f ∷ g ∷ segments) later some own other =
      ap (put f) (one_group number (g ∷ segments) later (λ e. absurd cc) (λ h at. own h (within_tail f (g ∷ segments) h at)) other)
      ∙ joined_own f (record { number = number; segments = map (stored_in files) (g ∷ segments) }) (grouped later)
      (same_number f.name.wal number) (own f (within_head f (g ∷ segments)))

  of_number : (number : ℕ) (segments : List Found) → All (λ (f : Found). f.name.wal ≡ number) segments → (f : Found) → Contains segments f → f.name.wal ≡ number
  of_number number segments own f at = subst (λ (g : Found). g.name.wal ≡ number) at.2 (own at.0 f at.1)

  same_wals : (wals : List FoundWal) (row : List Found) → Groups wals row [] → grouped row ≡ wals_in files wals
  unfolding Groups
  same_wals [] row g = ap grouped g
  same_wals (wal ∷ wals) row (later, group, rest) =
      ap grouped group.cut ∙ one_group wal.number wal.segments.items later group.some (of_number wal.number wal.segments.items group.own) group.other
      ∙ ap (λ (l : List Wal). wal_in files wal ∷ l) (same_wals wals later rest)

  -- so those stand by their numbers, and are the listing too
  pub wals_by_number : (wals : List FoundWal) (row : List Found) → Groups wals row [] → Ascends row → AreByNumber 0 (wals_in files wals)
  wals_by_number wals row g up = subst (AreByNumber 0) (same_wals wals row g) (by_number 0 row up (λ f at. omega arith))

  pub listing_of : (wals : List FoundWal) (row : List Found) → Groups wals row [] → Ascends row → IsRowOf files row
      → IsListingOf (dirs_as_read files) (wals_in files wals)
  listing_of wals row g up is = subst (IsListingOf (dirs_as_read files)) (same_wals wals row g) (grouped_listing row up is)
