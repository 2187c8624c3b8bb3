-- What a crash may leave of the files, and when no torn chunk passes for a whole one (docs/formats/disk.md, "Images").
use Rattle.std.specs.Prelude.{◌≡◌, ℕ, ◌≤◌, ◌%◌, ◌^◌, true, false, List, [], take, drop, length, Option, Some, None, if◌then◌else◌}
use Rattle.wal_base.specs.Prefixes.{IsPrefixOf}
use Rattle.disk_face.specs.declared.FilePlace.TheVariants.{Segment, Table}
use Rattle.disk_face.specs.View.{Place, File, Files, Dirs, DiskView, files}

-- What a crash may leave of one file. It may be gone if it was not created, or is leaving.
-- The bytes of a segment past the stable ones are free. A table is there whole.
abbrev pub IsImageOf : Place → Option File → Option (List ℕ) → Type 0
IsImageOf p None None = Unit {0}
IsImageOf p None (Some bytes) = ⊥
IsImageOf p (Some f) None = (f.created ≡ true → f.leaving ≡ true)
IsImageOf (Segment s n) (Some f) (Some bytes) = (f.created ≡ true → IsPrefixOf (take f.stable f.sent) bytes)
IsImageOf (Table n) (Some f) (Some bytes) = (f.created ≡ true → bytes ≡ f.sent)

-- what a crash may leave of all files: no other file is there
abbrev pub IsImage : Files → Dirs → Type 0
IsImage files dirs = (p : Place) → IsImageOf p (files p) (dirs p)

-- the log number of a WAL: its lowest 32 bits
abbrev pub log_number : ℕ → ℕ
log_number wal = wal % 2 ^ 32

-- the log number of a file's chunks: the low 32 bits of its number
abbrev pub log_of : Place → ℕ
log_of (Segment s n) = log_number n.wal
log_of (Table upto) = log_number upto

-- `Chunk bytes at log size` says that a whole chunk of that log number and of that many bytes stands there.
-- Wherever one stands in a file of the image, the same bytes were sent to that place.
abbrev pub IsChanceFree : (List ℕ → ℕ → ℕ → ℕ → Type 0) → Files → Dirs → Type 0
IsChanceFree Chunk files dirs =
    (p : Place) (f : File) (bytes : List ℕ) (at size : ℕ) → files p ≡ Some f → dirs p ≡ Some bytes → Chunk bytes at (log_of p) size
    → take size (drop at bytes) ≡ take size (drop at f.sent)

-- what is true of every file: what is stable is done, what is done was sent, and a read begins with what is done
pub record IsSoundFile (f : File) : Type 0 where
  pub stable : f.stable ≤ f.done
  pub done : f.done ≤ length f.sent
  pub reads : IsPrefixOf (take f.done f.sent) f.reads

-- What is true of the file at a place: it is sound, nothing was sent to a segment that is not created, and a table that is
-- there reads as it was sent.
abbrev pub IsSound : Place → File → Type 0
IsSound (Segment s n) f = IsSoundFile f × (f.created ≡ false → f.sent ≡ [])
IsSound (Table n) f = IsSoundFile f × (f.created ≡ true → f.reads ≡ f.sent)

-- a file is whole: created, read as it was sent, and sent in full
pub record IsRestedFile (f : File) : Type 0 where
  pub created : f.created ≡ true
  pub stays : f.leaving ≡ false
  pub done : f.done ≡ length f.sent
  pub reads : f.reads ≡ f.sent

-- every file is whole
abbrev pub IsRested : Files → Type 0
IsRested files = (p : Place) (f : File) → files p ≡ Some f → IsRestedFile f

-- What a read finds of the file at a place. The creation of a segment must be completed; a table reads as it stands, whole or not.
abbrev pub as_read : Place → Option File → Option (List ℕ)
as_read p None = None
as_read (Segment s n) (Some f) = if f.created then Some f.reads else None
as_read (Table n) (Some f) = Some f.reads

-- the directories as they read now
abbrev pub dirs_as_read : Files → Dirs
dirs_as_read files p = as_read p (files p)

-- the directories of a disk, as they read
abbrev pub directories : DiskView → Dirs
directories v = dirs_as_read (files v)

-- what was sent to a file of which a creation was started
abbrev pub as_sent : Option File → Option (List ℕ)
as_sent None = None
as_sent (Some f) = Some f.sent
