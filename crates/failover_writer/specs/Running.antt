-- What the journal of a run leaves, and how it ends (docs/formats/program.md, "The journal of a run").
use Rattle.std.specs.Prelude.{◌<◌, ◌≡◌, ◌≢◌, Some, ℕ}
use Rattle.crc_chunk.specs.Chunk.{IsChunkOf}
use Rattle.disk_face.specs.declared.Side.{Side}
use Rattle.disk_face.specs.declared.SegName.{SegName}
use Rattle.disk_face.specs.View.{Place, segment, File, Files, DiskView, files}
use Rattle.disk_face.specs.Image.{IsImage, IsChanceFree, dirs_as_read}
use Rattle.disk_face.specs.Listing.{IsSegmentName}
use Rattle.wal_recovery.specs.Resting.{IsAsOrSynced, IsStable}
use Rattle.wal_recovery.specs.Further.{IsElsewhere}

-- No file but the segments of the WAL changed, unless by a sync.
abbrev pub OthersOnlySynced : ℕ → Files → Files → Type 0
OthersOnlySynced wal old new = (p : Place) → IsElsewhere wal p → IsAsOrSynced (old p) (new p)

-- every listed segment of another WAL is stable in full
abbrev pub AreOthersStable : ℕ → Files → Type 0
AreOthersStable wal files = (side : Side) (name : SegName) (f : File) → IsSegmentName name → name.wal ≢ wal → files (segment side name) ≡ Some f → IsStable f

-- some poll may still be answered pending
abbrev pub PollsLeft : DiskView → Type 0
PollsLeft view = (side : Side) × (0 < view.polls_left side)

-- No file changed but those of segments of the WAL.
abbrev pub OthersSame : ℕ → Files → Files → Type 0
OthersSame wal old new = (p : Place) → IsElsewhere wal p → new p ≡ old p

-- The directories as they read are an image in which no torn chunk deceives.
abbrev pub ReadsAsImage : Files → Type 0
ReadsAsImage files = IsImage files (dirs_as_read files) × IsChanceFree IsChunkOf files (dirs_as_read files)
