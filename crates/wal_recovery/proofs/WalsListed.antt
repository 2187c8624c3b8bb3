-- The WALs of a row: each segment is of its WAL, and has as many bytes as it was listed with.
use Rattle.std.proofs.Common.{ℕ, List, [], ◌∷◌, All, Contains, get_or, subst, sym}
use Rattle.std.specs.List.{AllByRecursion}
use Rattle.std.proofs.lemmas.List.Elements.{Contains-get_or, Contains-append_left, Contains-append_right, All-from_recursion}
use Rattle.disk_face.specs.View.{Files, Dirs}
use Rattle.disk_face.specs.Image.{dirs_as_read}
use Rattle.wal_recovery.specs.declared.listing.Found.{Found}
use Rattle.wal_recovery.specs.declared.wals.FoundWal.{FoundWal}
use Rattle.wal_recovery.specs.Listing.{IsListingOf, from_wal}
use Rattle.wal_recovery.specs.Rows.{files_from, wals_in, Ascends, IsRowOf, Groups}
use Rattle.wal_recovery.specs.Gathered.{IsAsListed, AreAsListed, IsOwnWal, AreListedWals}
use Rattle.wal_recovery.proofs.ByWal.{listing_of}
use Rattle.wal_recovery.proofs.From.{dirs_left, row_there, row_low, wals_left}

own_by : (wals : List FoundWal) (row : List Found) → Groups wals row [] → AllByRecursion IsOwnWal wals
unfolding Groups
own_by [] row g = tt
own_by (wal ∷ wals) row (later, group, rest) = (group.own, own_by wals later rest)

-- each segment is of its WAL
pub wals_own : (wals : List FoundWal) (row : List Found) → Groups wals row [] → All IsOwnWal wals
wals_own wals row g = All-from_recursion IsOwnWal wals (own_by wals row g)

module _ (files : Files) where
  listed_by : (wals : List FoundWal) (row : List Found) → Groups wals row [] → ((f : Found) → Contains row f → IsAsListed files f)
      → AllByRecursion (λ (w : FoundWal). AreAsListed files w.segments.items) wals
  unfolding Groups
  listed_by [] row g each = tt
  listed_by (wal ∷ wals) row (later, group, rest) each = (
    λ k d lt. each (get_or wal.segments.items k d)
        (subst (λ (r : List Found). Contains r (get_or wal.segments.items k d)) (sym group.cut)
        (Contains-append_left wal.segments.items later (get_or wal.segments.items k d) (Contains-get_or wal.segments.items k d lt))),
    listed_by wals later rest (λ f at. each f (subst (λ (r : List Found). Contains r f) (sym group.cut) (Contains-append_right wal.segments.items later f at))),
  )

  -- the WALs are those of the directories from a number on
  pub wals_listed : (least : ℕ) (wals : List FoundWal) (row : List Found) → Groups wals row [] → Ascends row → IsRowOf (files_from least files) row
      → AreListedWals (from_wal least (dirs_as_read files)) files wals
  wals_listed least wals row g up is = record {
    as_listed = All-from_recursion (λ (w : FoundWal). AreAsListed files w.segments.items) wals (listed_by wals row g (row_there least files row is));
    listed = subst (λ (dirs : Dirs). IsListingOf dirs (wals_in files wals)) (dirs_left least files)
        (subst (IsListingOf (dirs_as_read (files_from least files))) (wals_left least files wals row g (row_low least files row is))
        (listing_of (files_from least files) wals row g up is));
  }
