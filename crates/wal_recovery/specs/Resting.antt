-- Files that are stable in full, and images that a change of files adds nothing to (docs/formats/journal.md, "Recovery").
use Rattle.std.specs.Prelude.{◌≡◌, ◌⊎◌, Bool, true, false, length, Option, Some}
use Rattle.disk_face.specs.declared.Side.{Side}
use Rattle.disk_face.specs.declared.SegName.{SegName}
use Rattle.disk_face.specs.declared.OpId.{OpId}
use Rattle.disk_face.specs.View.{Place, segment, File, Files, Dirs, DiskView}
use Rattle.disk_face.specs.Listing.{IsSegmentName}
use Rattle.disk_face.specs.Image.{IsImage}
use Rattle.disk_face.specs.Calls.{GoesOn, SameDisk, IsDone, HasFailed}

-- a file that is stable in full
pub record IsStable (f : File) : Type 0 where
  pub created : f.created ≡ true
  pub stays : f.leaving ≡ false
  pub whole : f.stable ≡ length f.sent

-- every segment that is listed is stable in full
abbrev pub AreSegmentsStable : Files → Type 0
AreSegmentsStable files = (side : Side) (name : SegName) (f : File) → IsSegmentName name → files (segment side name) ≡ Some f → IsStable f

-- what a crash may leave of the files now, it might have left before
abbrev pub AddsNoImage : Files → Files → Type 0
AddsNoImage old now = (dirs : Dirs) → IsImage now dirs → IsImage old dirs

-- ---- syncs

-- a file of which all that was done is stable
abbrev pub IsSynced : Option File → Type 0
IsSynced o = (f : File) × (o ≡ Some f) × (f.stable ≡ f.done)

-- the file is as it was, or besides synced
abbrev pub IsAsOrSynced : Option File → Option File → Type 0
IsAsOrSynced old now = (now ≡ old) ⊎ ((f : File) × (old ≡ Some f) × (now ≡ Some (record f { stable = f.done })))

-- Nothing happened to any file but a sync.
abbrev pub OnlySynced : Files → Files → Type 0
OnlySynced old now = (p : Place) → IsAsOrSynced (old p) (now p)

-- done, or failed
abbrev pub IsEnd : Bool → OpId → DiskView → DiskView → Bool → Type 0
IsEnd tells id old new true = IsDone tells id old new
IsEnd tells id old new false = HasFailed tells id old new

-- After a time in which nothing changed, the operation ended.
pub record EndsBy (tells : Bool) (id : OpId) (old new : DiskView) (done : Bool) : Type 0 where
  pub mid : DiskView
  pub same : SameDisk old mid
  pub goes : GoesOn old mid
  pub later : GoesOn mid new
  pub end : IsEnd tells id mid new done
