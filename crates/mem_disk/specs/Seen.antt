-- A disk in memory, as contracts see it (docs/formats/disk.md, "The disk").
use Rattle.std.specs.Prelude.{◌≡◌, ℕ, List, length, Some, None}
use Rattle.disk_face.specs.declared.Side.{Side}
use Rattle.disk_face.specs.declared.SegName.{SegName}
use Rattle.disk_face.specs.View.{Place, segment, DiskView, files, by_side}
use Rattle.disk_face.specs.Image.{IsImage, as_read, as_sent, directories}
use Rattle.disk_face.specs.Calls.{ChangesFile}
use Rattle.disk_face.specs.Answers.{FillsIfThere}
use Rattle.disk_face.specs.Tables.{whole}
use Rattle.mem_disk.specs.declared.memory.MemDisk.{MemDisk}
use Rattle.mem_disk.specs.declared.picks.FilePick.{FilePick}
use Rattle.mem_disk.specs.Mem.{mem_view}
use Rattle.mem_disk.specs.Picks.{picked_dirs, whole_files}
use Rattle.mem_disk.specs.Plan.{Plan}

-- what the fields of a disk in memory stand for
abbrev pub seen : MemDisk → DiskView
seen d =
    mem_view d.files.items d.ops.items d.moments.past (by_side d.faults.primary d.faults.secondary)
    (by_side d.polls.primary d.polls.secondary) d.log.calls

-- the failures that were asked for, and how far the counts are
abbrev pub plan_of : MemDisk → Plan
plan_of d = record {
  failing_ops = d.fail_ops.items;
  starts = length d.ops.items;
  failing_calls = d.calls.numbers.items;
  calls = d.calls.calls;
  failing_table_calls = d.table_calls.numbers.items;
  table_calls = d.table_calls.calls;
}

-- a read of the segment gives these bytes
abbrev pub SegmentReads : DiskView → Side → SegName → List ℕ → Type 0
SegmentReads v side name bytes = as_read (segment side name) (files v (segment side name)) ≡ Some bytes

-- these bytes were sent to the segment
abbrev pub SegmentSent : DiskView → Side → SegName → List ℕ → Type 0
SegmentSent v side name bytes = as_sent (files v (segment side name)) ≡ Some bytes

-- the buffer is filled from there in the file of that place, if it is there
abbrev pub FileFills : DiskView → Place → ℕ → List ℕ → ℕ → Type 0
FileFills v p = FillsIfThere (files v p)

-- where no file is at the place, nothing is read
abbrev pub NoneIfNoFile : DiskView → Place → ℕ → Type 0
NoneIfNoFile v p n = files v p ≡ None → n ≡ 0

-- the same of a segment
abbrev pub SegmentFills : DiskView → Side → SegName → ℕ → List ℕ → ℕ → Type 0
SegmentFills v side name = FileFills v (segment side name)

-- where the segment is not there, nothing is read
abbrev pub NoneIfAbsent : DiskView → Side → SegName → ℕ → Type 0
NoneIfAbsent v side name = NoneIfNoFile v (segment side name)

-- one moment passes, in which the file of the place stands whole, with these bytes
abbrev pub PutsWholeAt : Place → List ℕ → DiskView → DiskView → Type 0
PutsWholeAt p bytes = ChangesFile p (λ f g. g ≡ Some (whole bytes))

-- the same of a segment
abbrev pub PutsWhole : Side → SegName → List ℕ → DiskView → DiskView → Type 0
PutsWhole side name = PutsWholeAt (segment side name)

-- the directories read as a crash may leave the files before
abbrev pub ReadsImageOf : DiskView → DiskView → Type 0
ReadsImageOf old new = IsImage (files old) (directories new)

-- the directories read as the picks leave them of the files before
abbrev pub ReadsPicked : DiskView → List FilePick → DiskView → Type 0
ReadsPicked old picks new = (p : Place) → directories new p ≡ picked_dirs (files old) picks p

-- each file stands whole, as it reads
abbrev pub StandsAsRead : DiskView → Type 0
StandsAsRead v = (p : Place) → files v p ≡ whole_files (directories v) p
