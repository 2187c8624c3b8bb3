-- A row that is cut where a new WAL begins, the order of its names, and which segments of the directories it has.
use Rattle.std.proofs.Common.{◌≡◌, inl, inr, zero, suc, ◌≤◌, ◌<◌, ℕ, List, [], ◌∷◌, ◌++◌, Option, Some, None, All, Contains, length, take, drop, subst, sym, ap, ◌∙◌, refl, arith}
use Rattle.std.specs.Prelude.{slice_get}
use Rattle.std.proofs.lemmas.List.{take-append-drop}
use Rattle.disk_face.specs.declared.SegName.{SegName}
use Rattle.disk_face.specs.View.{Files}
use Rattle.disk_face.specs.Image.{dirs_as_read}
use Rattle.disk_face.specs.Listing.{IsBefore}
use Rattle.wal_recovery.specs.declared.listing.Found.{Found}
use Rattle.wal_recovery.specs.declared.wals.FoundWal.{FoundWal}
use Rattle.wal_recovery.specs.Listing.{Stored, name_in, place_in, StandsIn}
use Rattle.wal_recovery.specs.Rows.{place_listed, IsRowOf, BeginsElsewhere, IsGroup, Groups, bytes_at, bytes_or_none, stored_in}
use Rattle.wal_recovery.proofs.Tools.{some_is}
use Rattle.disk_face.proofs.Laws.{read_created}
use Rattle.wal_recovery.proofs.IsListing.{read_open}

-- one WAL more
pub groups_more : (wals : List FoundWal) (row mid later : List Found) (wal : FoundWal) → Groups wals row mid → IsGroup wal mid later
    → Groups (wals ++ wal ∷ []) row later
unfolding Groups
groups_more [] row mid later wal g is = (later, subst (λ (r : List Found). IsGroup wal r later) (sym g) is, refl)
groups_more (w ∷ wals) row mid later wal g is = (g.0, g.1, groups_more wals g.0 mid later wal g.2 is)

some_front : {X : Type 0} (x : X) (xs : List X) → x ∷ xs ≡ [] → ⊥
some_front x xs e = cc

no_first : {X : Type 0} (x : X) → ◌≡◌ {A = Option X} None (Some x) → ⊥
no_first x e = cc

-- the segments at the front that are of the first one's WAL
pub group_is : (rest : List Found) (n : ℕ) (first : Found) (wal : FoundWal) (own later : List Found) → slice_get rest 0 ≡ Some first
    → wal.number ≡ first.name.wal
    → All (λ (f : Found). f.name.wal ≡ first.name.wal) (take n rest) → BeginsElsewhere first.name.wal (drop n rest) → own ≡ take n rest
    → later ≡ drop n rest → wal.segments.items ≡ own → IsGroup wal rest later
group_is [] n first wal own later is number all other front back items = absurd (no_first first is)
group_is (f ∷ rest) zero first wal own later is number all other front back items =
    let same : f ≡ first = some_is f first is in absurd (other (ap (λ (x : Found). x.name.wal) same))
group_is (f ∷ rest) (suc n) first wal own later is number all other front back items = record {
  cut = sym (ap (λ (l : List Found). l ++ later) (items ∙ front) ∙ ap (λ (l : List Found). take (suc n) (f ∷ rest) ++ l) back
      ∙ take-append-drop (suc n) (f ∷ rest));
  some = λ none. some_front f (take n rest) (sym (items ∙ front) ∙ none);
  own = subst (λ (l : List Found). All (λ (g : Found). g.name.wal ≡ wal.number) l) (sym (items ∙ front))
      (subst (λ (w : ℕ). All (λ (g : Found). g.name.wal ≡ w) (take (suc n) (f ∷ rest))) (sym number) all);
  other = subst (λ (l : List Found). BeginsElsewhere wal.number l) (sym back)
      (subst (λ (w : ℕ). BeginsElsewhere w (drop (suc n) (f ∷ rest))) (sym number) other);
}

-- ---- names in their order

-- a name that is not before in its WAL
pub wal_up : (a b : SegName) → IsBefore a b → a.wal ≤ b.wal
wal_up a b (inl low) = omega (arith, low)
wal_up a b (inr same) = omega (arith, same.0)

pub index_up : (a b : SegName) → IsBefore a b → a.wal ≡ b.wal → a.index < b.index
index_up a b (inl low) e = absurd (omega (arith, low, e))
index_up a b (inr same) e = same.1

module _ (files : Files) where
  -- a segment of the row, with its bytes
  abbrev pub IsStoredFound : List Found → ℕ → Stored → Type 0
  IsStoredFound row number stored = (f : Found) × Contains row f × (f.name.wal ≡ number) × (stored_in files f ≡ stored)

  pub found_stands : (row : List Found) (number : ℕ) (stored : Stored) → IsRowOf files row → IsStoredFound row number stored
      → StandsIn (dirs_as_read files) number stored
  found_stands row number stored is (f, at, wal, e) =
      let there = (is f).0 at in
      let has = there.1 in
      let here : StandsIn (dirs_as_read files) f.name.wal (stored_in files f) = (
        there.0,
        let reads = read_created (place_listed f) (files (place_listed f)) has.0 has.1 has.2
            in reads ∙ ap Some (sym (ap bytes_or_none reads)),
      ) in
      subst (λ (n : ℕ). StandsIn (dirs_as_read files) n stored) wal (subst (λ (s : Stored). StandsIn (dirs_as_read files) f.name.wal s) e here)

  pub stands_found : (row : List Found) (number : ℕ) (stored : Stored) → IsRowOf files row → StandsIn (dirs_as_read files) number stored
      → IsStoredFound row number stored
  stands_found row number stored is (good, reads) =
      let place = place_in number stored.side stored.index in
      let file = read_open stored.side (name_in number stored.index) (files place) stored.content reads in
      let f : Found = record { side = stored.side; name = name_in number stored.index; len = length file.0.reads } in
      let content : bytes_at files place ≡ stored.content = ap bytes_or_none reads in
      (f, (is f).1 (good, (file.0, file.1, file.2, refl)), refl, (λ i. record { side = stored.side; index = stored.index; content = content i }))
