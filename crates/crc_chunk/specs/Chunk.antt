-- One chunk of a log: a header and a payload (docs/formats/log.md, "Chunk").
use Rattle.crc_chunk.specs.declared.chunk.TheConstants.{BLOCK, HEADER, SYNC_HEADER}
use Rattle.std.specs.Prelude.{◌≡◌, ℕ, ◌+◌, ◌%◌, ◌≤◌, ◌<◌, ◌^◌, Bool, true, false, Option, Some, None, is_some, List, [], ◌∷◌, ◌++◌, length}
use Rattle.std.specs.Int.{w16, w32, w64, to_le_bytes}
use Rattle.std.specs.List.{slice_range}
use Rattle.crc_chunk.specs.Bytes.{StandsAt}
use Rattle.crc_chunk.specs.declared.chunk.ChunkKind.{ChunkKind}
use Rattle.crc_chunk.specs.declared.chunk.ChunkKind.TheVariants.{Full, First, Middle, Last}
use Rattle.crc_chunk.specs.declared.chunk.ChunkSpan.{ChunkSpan}
use Rattle.crc_chunk.specs.Crc.{checksum, masked_of}

-- A chunk: which part of a record its payload is, its sync offset if it has one, and the payload.
pub record Chunk : Type 0 where
  pub kind : ChunkKind
  pub offset : Option ℕ
  pub payload : List ℕ

-- a chunk without a sync offset
abbrev pub old_chunk : ChunkKind → List ℕ → Chunk
old_chunk kind payload = record { kind = kind; offset = None; payload = payload }

-- a chunk with a sync offset
abbrev pub sync_chunk : ChunkKind → ℕ → List ℕ → Chunk
sync_chunk kind offset payload = record { kind = kind; offset = Some offset; payload = payload }

-- the chunk that was found in bytes
abbrev pub chunk_of : List ℕ → ChunkSpan → Chunk
chunk_of bytes span = record { kind = span.kind; offset = span.offset; payload = slice_range bytes span.from span.to }

-- the byte that says which kind a chunk is, and whether it is a sync chunk
abbrev pub type_byte : ChunkKind → Bool → ℕ
type_byte Full false = 5
type_byte First false = 6
type_byte Middle false = 7
type_byte Last false = 8
type_byte Full true = 9
type_byte First true = 10
type_byte Middle true = 11
type_byte Last true = 12

-- a sync offset as it stands in a header
abbrev pub offset_bytes : Option ℕ → List ℕ
offset_bytes None = []
offset_bytes (Some offset) = to_le_bytes w64 offset

-- how long a header with this sync offset is, or with none
abbrev pub header_with : Option ℕ → ℕ
header_with None = HEADER
header_with (Some offset) = SYNC_HEADER

-- how many bytes of a chunk stand before its payload
abbrev pub header_len : Chunk → ℕ
header_len c = header_with c.offset

-- how many bytes a chunk has
abbrev pub chunk_len : Chunk → ℕ
chunk_len c = header_len c + length c.payload

-- eight bytes hold the sync offset, where there is one
abbrev pub OffsetFits : Option ℕ → Type 0
OffsetFits None = Unit {0}
OffsetFits (Some offset) = offset < 2 ^ 64

-- what the checksum covers: the type, the log number, the sync offset where there is one, and the payload
unfoldable pub covered : ℕ → Chunk → List ℕ
covered log c = type_byte c.kind (is_some c.offset) ∷ to_le_bytes w32 log ++ offset_bytes c.offset ++ c.payload

-- the bytes of a chunk: the masked checksum, the payload's length, and what the checksum covers
unfoldable pub chunk_bytes : ℕ → Chunk → List ℕ
chunk_bytes log c = to_le_bytes w32 (masked_of (checksum (covered log c))) ++ to_le_bytes w16 (length c.payload) ++ covered log c

-- The chunk stands at this place, with this log number, within one block.
pub record ChunkAt (bytes : List ℕ) (at log : ℕ) (c : Chunk) : Type 0 where
  pub stands : StandsAt bytes at (chunk_bytes log c)
  pub fits : OffsetFits c.offset
  pub within : at % BLOCK + chunk_len c ≤ BLOCK

-- A chunk that was found at this place of bytes has a header there, and its payload ends within them.
abbrev pub IsSpanAt : List ℕ → ℕ → ChunkSpan → Type 0
IsSpanAt bytes at span = (span.from ≡ at + header_with span.offset) × (span.from ≤ span.to) × (span.to ≤ length bytes)

-- A whole chunk of the log stands at this place, of so many bytes.
pub record IsChunkOf (bytes : List ℕ) (at log size : ℕ) : Type 0 where
  pub chunk : Chunk
  pub stands : ChunkAt bytes at log chunk
  pub size_is : size ≡ chunk_len chunk
