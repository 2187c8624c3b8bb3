-- Laws of a writer that fits a disk, each as one statement (docs/formats/journal.md, "The writer of a segment").
use Rattle.std.specs.Prelude.{◌≤◌, ◌++◌, ℕ, Bool, List, IsTrue}
use Rattle.disk_face.specs.declared.Side.{Side}
use Rattle.disk_face.specs.declared.SegName.{SegName}
use Rattle.disk_face.specs.View.{segment, Files, DiskView, files}
use Rattle.disk_face.specs.Image.{log_of}
use Rattle.batch_repr.specs.declared.batch.Batch.{Batch}
use Rattle.log_writer.specs.Writer.{Writer}
use Rattle.log_writer.specs.Fits.{place_of_writer, Fits, SameFile}
use Rattle.log_writer.specs.Kept.{SegmentKept, IsKeptFile}
use Rattle.log_writer.specs.Promises.{KeepsSynced}

-- A writer that fits for some records fits with more after them.
abbrev pub FitsAsRecordsCome : Type 0
FitsAsRecordsCome = (tells : Bool) (records more : List Batch) (w : Writer) (v : DiskView) → Fits tells records w v → Fits tells (records ++ more) w v

-- A writer that fits still does where nothing changed of its file.
abbrev pub FitsBesideOtherOperations : Type 0
FitsBesideOtherOperations = (tells : Bool) (records : List Batch) (w : Writer) (old new : DiskView) → Fits tells records w old
    → SameFile tells (place_of_writer w) old new → Fits tells records w new

-- A writer that fits has its file, with any number of the records that it has synced.
abbrev pub FittingHasItsFile : Type 0
FittingHasItsFile =
    (tells : Bool) (records : List Batch) (w : Writer) (v : DiskView) (synced : ℕ) → Fits tells records w v → IsTrue tells → w.from ≤ synced → synced ≤ w.synced
    → IsKeptFile w.log w.from synced records (files v (place_of_writer w))

-- A segment whose file has what is synced of it is kept, whatever stands at other places.
abbrev pub SyncedFileIsKept : Type 0
SyncedFileIsKept =
    (side : Side) (name : SegName) (from synced : ℕ) (records : List Batch) (now : Files)
    → IsKeptFile (log_of (segment side name)) from synced records (now (segment side name))
    → SegmentKept (segment side name) (log_of (segment side name)) from synced records now

-- A writer that fits keeps its segment, with all that it has synced.
abbrev pub FittingKeepsItsSegment : Type 0
FittingKeepsItsSegment = (tells : Bool) (records : List Batch) (w : Writer) (v : DiskView) → Fits tells records w v → IsTrue tells
    → KeepsSynced w records (files v)
