-- What a crash may leave of a segment (docs/formats/journal.md, "What a crash leaves of a segment").
use Rattle.std.specs.Prelude.{◌≡◌, ℕ, ◌+◌, ◌-◌, ◌^◌, ◌<◌, ◌≤◌, true, false, List, length, map, take, drop, Option, Some, None}
use Rattle.disk_face.specs.View.{Place, File, Files, Dirs}
use Rattle.disk_face.specs.Image.{IsImage, IsChanceFree}
use Rattle.crc_chunk.specs.Chunk.{IsChunkOf}
use Rattle.batch_repr.specs.declared.batch.Batch.{Batch}
use Rattle.batch_repr.specs.Written.{written}
use Rattle.block_record.specs.declared.records.ReadOut.{ReadOut}
use Rattle.block_record.specs.ReadOut.{bytes_of, ReadsOut}
use Rattle.log_writer.specs.Parts.{segment_bytes}

-- What is read is a prefix of the records from `from`, which has those synced.
pub record IsPrefixRead (from synced : ℕ) (records : List Batch) (read : List (List ℕ)) : Type 0 where
  pub count : ℕ
  pub has_synced : synced - from ≤ count
  pub within : from + count ≤ length records
  pub first : read ≡ map written (take count (drop from records))

-- The segment that stands reads out as a prefix of the records, with those synced, and nothing shows it corrupt. Where none stands,
-- nothing was synced.
abbrev pub IsKeptAs : ℕ → ℕ → ℕ → List Batch → Option (List ℕ) → Type 0
IsKeptAs log from synced records None = synced ≡ from
IsKeptAs log from synced records (Some content) =
    (read : ReadOut) → ReadsOut content log read → IsPrefixRead from synced records (bytes_of read.records) × (read.shown ≡ None)

-- It is so in each image of the files that no torn chunk deceives.
abbrev pub SegmentKept : Place → ℕ → ℕ → ℕ → List Batch → Files → Type 0
SegmentKept place log from synced records files =
    (dirs : Dirs) → IsImage files dirs → IsChanceFree IsChunkOf files dirs → IsKeptAs log from synced records (dirs place)

-- A prefix of the records from `from` was sent to the file, each with a sync offset. Where it is created, it stays and some first
-- records are stable, those synced among them; else there are none of these. No sync offset is above their length.
pub record HasSynced (log from synced : ℕ) (records : List Batch) (f : File) : Type 0 where
  pub offsets : ℕ → ℕ
  pub covers : ℕ
  pub upto : ℕ
  pub begins : from ≤ synced
  pub has_synced : synced ≤ covers
  pub has_covered : covers ≤ upto
  pub within : upto ≤ length records
  pub sent : f.sent ≡ segment_bytes log offsets from upto records
  pub stable : f.created ≡ true → f.stable ≤ length f.sent
  pub covered : f.created ≡ true → length (segment_bytes log offsets from covers records) ≤ f.stable
  pub below : (number : ℕ) → offsets number ≤ length (segment_bytes log offsets from covers records)
  pub fit : (number : ℕ) → offsets number < 2 ^ 64
  pub stays : f.created ≡ true → f.leaving ≡ false
  pub not_created : f.created ≡ false → covers ≡ from

-- what of a file makes that its segment is kept
abbrev pub IsKeptFile : ℕ → ℕ → ℕ → List Batch → Option File → Type 0
IsKeptFile log from synced records None = synced ≡ from
IsKeptFile log from synced records (Some f) = HasSynced log from synced records f
