-- How records are laid into the blocks of a segment (docs/formats/log.md, "Framing").
use Rattle.crc_chunk.specs.declared.chunk.TheConstants.{BLOCK, SYNC_HEADER}
use Rattle.std.specs.Prelude.{ℕ, zero, suc, ◌+◌, ◌-◌, ◌%◌, ◌<◌, ◌^◌, List, [], ◌∷◌, ◌++◌, length, replicate, take, drop, nat_lt, if◌then◌else◌}
use Rattle.std.specs.Int.{div_ceil}
use Rattle.std.specs.List.{All}
use Rattle.crc_chunk.specs.declared.chunk.ChunkKind.TheVariants.{Full, First, Middle, Last}
use Rattle.crc_chunk.specs.Chunk.{sync_chunk, chunk_bytes}

-- Where a framer stands: the log number of its chunks, and the place of the next one in its block.
pub record Standing : Type 0 where
  pub log : ℕ
  pub place : ℕ

-- A record with its sync offset: how many bytes of its segment a completed sync covered as its writing began.
pub record Marked : Type 0 where
  pub offset : ℕ
  pub bytes : List ℕ

-- Eight bytes hold each sync offset.
abbrev pub OffsetsFit : List Marked → Type 0
OffsetsFit records = All (λ (r : Marked). r.offset < 2 ^ 64) records

-- the bytes from a place to the end of its block
abbrev pub left_in_block : ℕ → ℕ
left_in_block at = BLOCK - at % BLOCK

-- the payload that the block of a place has room for, after a header
abbrev pub room_at : ℕ → ℕ
room_at at = left_in_block at - SYNC_HEADER

-- bytes cut into this many fragments from a block's front on: each takes the room of its block, or what is left
abbrev pub cut : ℕ → List ℕ → List (List ℕ)
cut zero bytes = []
cut (suc n) bytes = take (room_at 0) bytes ∷ cut n (drop (room_at 0) bytes)

-- how many blocks so many bytes need, from a block's front on
abbrev pub blocks_for : ℕ → ℕ
blocks_for len = div_ceil len (room_at 0)

-- the fragments after the first
abbrev pub later_fragments : List ℕ → List (List ℕ)
later_fragments bytes = cut (blocks_for (length bytes)) bytes

-- The fragments of a record that begins at a place: each takes the room of its block, or the rest of the record.
abbrev pub fragments : ℕ → List ℕ → List (List ℕ)
fragments at bytes = take (room_at at) bytes ∷ later_fragments (drop (room_at at) bytes)

-- the chunks of the fragments after the first
abbrev pub later_chunks : ℕ → ℕ → List (List ℕ) → List ℕ
later_chunks log offset [] = []
later_chunks log offset (part ∷ []) = chunk_bytes log (sync_chunk Last offset part)
later_chunks log offset (part ∷ next ∷ parts) = chunk_bytes log (sync_chunk Middle offset part) ++ later_chunks log offset (next ∷ parts)

-- the chunks of a record's fragments, each with its sync offset
abbrev pub chunks : ℕ → ℕ → List (List ℕ) → List ℕ
chunks log offset [] = []
chunks log offset (part ∷ []) = chunk_bytes log (sync_chunk Full offset part)
chunks log offset (part ∷ next ∷ parts) = chunk_bytes log (sync_chunk First offset part) ++ later_chunks log offset (next ∷ parts)

-- zeros where no header of a sync chunk fits
abbrev pub padding : ℕ → List ℕ
padding at = if nat_lt (left_in_block at) SYNC_HEADER then replicate (left_in_block at) 0 else []

-- bytes at a place, with the zeros after them
abbrev pub padded : ℕ → List ℕ → List ℕ
padded at bytes = bytes ++ padding (at + length bytes)

-- a record as it is framed at a place, with its sync offset
unfoldable pub framed : ℕ → ℕ → ℕ → List ℕ → List ℕ
framed log at offset bytes = padded at (chunks log offset (fragments at bytes))

-- where the next record begins in its block
abbrev pub standing_after : Standing → List ℕ → Standing
standing_after before bytes = record before { place = (before.place + length bytes) % BLOCK }

-- records laid one after another from a place on, each with its sync offset
abbrev pub laid : ℕ → ℕ → List Marked → List ℕ
laid log at [] = []
laid log at (first ∷ records) = framed log at first.offset first.bytes ++ laid log (at + length (framed log at first.offset first.bytes)) records
