-- A list of batches as a stream of bytes (docs/formats/ship.md, "The stream").
use Rattle.std.specs.Prelude.{ℕ, List, [], ◌++◌, length, codes}
use Rattle.std.specs.List.{flat_map}
use Rattle.std.specs.Int.{w32, to_le_bytes}
use Rattle.crc_chunk.specs.Crc.{checksum, masked_of}
use Rattle.batch_repr.specs.declared.batch.Batch.{Batch}
use Rattle.batch_repr.specs.Written.{written}

-- `PBWSHIP1`
abbrev pub magic : List ℕ
magic = codes "PBWSHIP1"

-- a text in its frame: its length, its masked checksum, and its bytes
unfoldable pub in_frame : List ℕ → List ℕ
in_frame text = to_le_bytes w32 (length text) ++ to_le_bytes w32 (masked_of (checksum text)) ++ text

-- the frame of a batch: of the bytes that are written for it
abbrev pub frame_of : Batch → List ℕ
frame_of batch = in_frame (written batch)

-- the frames of batches, one after another
abbrev pub stream_frames : List Batch → List ℕ
stream_frames batches = flat_map frame_of batches

-- the end of a stream: the frame of no bytes
abbrev pub end_mark : List ℕ
end_mark = in_frame []

-- the stream of a list of batches
abbrev pub stream_of : List Batch → List ℕ
stream_of batches = magic ++ stream_frames batches ++ end_mark
