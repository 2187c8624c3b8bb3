-- The listings of both sides, as a disk answered them (docs/formats/journal.md, "Recovery").
use Rattle.std.specs.Prelude.{◌≡◌, ◌⊎◌, ℕ, suc, ◌≤◌, ◌<◌, Bool, List, [], Contains, IsTrue}
use Rattle.disk_face.specs.declared.Side.{Side}
use Rattle.disk_face.specs.declared.Side.TheVariants.{Primary, Secondary}
use Rattle.disk_face.specs.declared.SegName.{SegName}
use Rattle.disk_face.specs.declared.Listed.{Listed}
use Rattle.disk_face.specs.View.{Files, DiskView, files, Call, Makes}
use Rattle.disk_face.specs.Listing.{IsAscending, AreSegmentNames, IsListing}
use Rattle.disk_face.specs.Asked.{listings, bytes_asked, length_listed, creations}
use Rattle.wal_recovery.specs.declared.listing.Found.{Found}
use Rattle.wal_recovery.specs.declared.listing.Sides.{Sides}
use Rattle.wal_recovery.specs.Asking.{AreNotOnTables, both_listed, length_in_row}

-- Each side's names ascend, and are names of segments.
pub record AreSideNames (sides : Sides) : Type 0 where
  pub ones_ascend : IsAscending sides.primary
  pub others_ascend : IsAscending sides.secondary
  pub ones_named : AreSegmentNames sides.primary
  pub others_named : AreSegmentNames sides.secondary

-- They are the listings of these files.
pub record AreListings (files : Files) (sides : Sides) : Type 0 where
  pub primary : IsListing files Primary sides.primary
  pub secondary : IsListing files Secondary sides.secondary

-- They are the listings of the disk.
abbrev pub AreSidesOf : Bool → DiskView → Sides → Type 0
AreSidesOf tells v sides = IsTrue tells → AreListings (files v) sides

-- The number is 1 more than that of the greatest WAL among the names, and 1 where there is none.
pub record IsAfter (names : List Listed) (next : ℕ) : Type 0 where
  pub above : (item : Listed) → Contains names item → item.name.wal < next
  pub least : ((next ≡ 1) × (names ≡ [])) ⊎ ((item : Listed) × Contains names item × (next ≡ suc item.name.wal))

-- The calls made since are a listing of the primary side and then one of the secondary side, with these answers.
abbrev pub ListsBoth : Sides → DiskView → DiskView → Type 0
ListsBoth sides old new = Makes (both_listed sides.primary sides.secondary) old new

-- The row has of no segment more bytes than it is listed with.
abbrev pub IsAsLongAsListed : List Found → Sides → Type 0
IsAsLongAsListed row sides =
    (side : Side) (name : SegName) → length_in_row side name row ≤ length_listed side name (both_listed sides.primary sides.secondary)

-- The row has no byte of a WAL below this one.
abbrev pub HasNoByteBelow : ℕ → List Found → Type 0
HasNoByteBelow least row = (side : Side) (name : SegName) → name.wal < least → length_in_row side name row ≡ 0

-- Where both sides list nothing the row is empty.
abbrev pub IsBareIf : Sides → List Found → Type 0
IsBareIf sides row = sides.primary ≡ [] → sides.secondary ≡ [] → row ≡ []

-- The calls made since list no side, ask for no more bytes of each segment than it is listed with and for none of a WAL below this
-- one, create none, and are not on tables.
pub record ReadsListed (least : ℕ) (sides : Sides) (old new : DiskView) : Type 0 where
  pub made : List Call
  pub makes : Makes made old new
  pub lists : (side : Side) → listings side made ≡ 0
  pub listed : (side : Side) (name : SegName) → length_listed side name made ≡ 0
  pub asked : (side : Side) (name : SegName)
      → bytes_asked side name made ≤ length_listed side name (both_listed sides.primary sides.secondary)
  pub below : (side : Side) (name : SegName) → name.wal < least → bytes_asked side name made ≡ 0
  pub creates : creations made ≡ 0
  pub tables : AreNotOnTables made
