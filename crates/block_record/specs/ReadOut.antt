-- The records that the longest chain of chunks spells, and what shows that the bytes after it are corrupt (docs/formats/log.md,
-- "Reading a segment").
use Rattle.crc_chunk.specs.declared.chunk.TheConstants.{BLOCK}
use Rattle.std.specs.Prelude.{◌≡◌, ℕ, ◌+◌, ◌-◌, ◌%◌, ◌<◌, ◌≤◌, Bool, true, false, not, ◌==◌, Option, Some, None, IsSomeAnd, List, [], ◌∷◌, ◌++◌, length, map, take, drop, nat_lt, if◌then◌else◌}
use Rattle.std.specs.List.{list_any, All}
use Rattle.crc_chunk.specs.declared.chunk.ChunkKind.{ChunkKind}
use Rattle.crc_chunk.specs.declared.chunk.ChunkKind.TheVariants.{Full, First, Middle, Last}
use Rattle.crc_chunk.specs.Chunk.{Chunk, header_len, ChunkAt}
use Rattle.block_record.specs.declared.records.ReadOut.{ReadOut}
use Rattle.block_record.specs.declared.records.Rec.{Rec}
use Rattle.block_record.specs.declared.records.Shown.{Shown}
use Rattle.block_record.specs.Framing.{Marked, left_in_block, laid}

-- The kind may follow: no record is open before Full and First, and one is before Middle and Last.
abbrev pub MayFollow : Bool → ChunkKind → Type 0
MayFollow is_open Full = is_open ≡ false
MayFollow is_open First = is_open ≡ false
MayFollow is_open Middle = is_open ≡ true
MayFollow is_open Last = is_open ≡ true

-- a record is open after it
abbrev pub leaves_open : ChunkKind → Bool
leaves_open Full = false
leaves_open First = true
leaves_open Middle = true
leaves_open Last = false

-- where the next chunk stands: here, or at the next block where fewer bytes are left than this
abbrev pub next_place : ℕ → ℕ → ℕ
next_place asked at = if nat_lt (left_in_block at) asked then at + left_in_block at else at

-- the place after a chunk that stands here
abbrev pub chunk_end : ℕ → Chunk → ℕ
chunk_end start link = start + header_len link + length link.payload

-- Where the next chunk would stand: after a chunk of either form, a header of that form must fit.
abbrev pub place_after : ℕ → Chunk → ℕ
place_after start link = next_place (header_len link) (chunk_end start link)

-- The chunks stand one after another, the first of them here, and each kind may follow.
abbrev pub IsChain : List ℕ → ℕ → ℕ → Bool → List Chunk → Type 0
IsChain bytes log at is_open [] = Unit {0}
IsChain bytes log at is_open (link ∷ links) =
    MayFollow is_open link.kind × ChunkAt bytes at log link × IsChain bytes log (place_after at link) (leaves_open link.kind) links

-- the place at which the chunk after a chain would stand
abbrev pub stopped_at : ℕ → List Chunk → ℕ
stopped_at at [] = at
stopped_at at (link ∷ links) = stopped_at (place_after at link) links

-- No chain from this place on is longer.
pub record IsLongestChain (bytes : List ℕ) (log at : ℕ) (is_open : Bool) (links : List Chunk) : Type 0 where
  pub chain : IsChain bytes log at is_open links
  pub longest : (others : List Chunk) → IsChain bytes log at is_open others → length others ≤ length links

-- what a chain has spelled so far: whole records, the place after the last of them, and what there is of the record that is open
pub record Spelled : Type 0 where
  pub records : List Rec
  pub ends_at : ℕ
  pub rest : Rec

-- no record, or nothing of one
abbrev pub no_rest : Rec
no_rest = record { at = 0; bytes = [] }

-- with one whole record more
abbrev pub ended : Spelled → ℕ → Rec → Spelled
ended so_far end whole = record { records = so_far.records ++ whole ∷ []; ends_at = end; rest = no_rest }

-- with one chunk more, which stands here
abbrev pub after_link : ℕ → Spelled → Chunk → Spelled
after_link start so_far link = go link.kind
  where
    more : Rec
    more = record { at = so_far.rest.at; bytes = so_far.rest.bytes ++ link.payload }

    begun : Rec
    begun = record { at = start; bytes = link.payload }

    go : ChunkKind → Spelled
    go Full = ended so_far (chunk_end start link) begun
    go First = record so_far { rest = begun }
    go Middle = record so_far { rest = more }
    go Last = ended so_far (chunk_end start link) more

-- with the chunks of a chain more
abbrev pub spelled_from : ℕ → Spelled → List Chunk → Spelled
spelled_from at so_far [] = so_far
spelled_from at so_far (link ∷ links) = spelled_from (place_after at link) (after_link at so_far link) links

-- what a segment has spelled before its first chunk
abbrev pub nothing : Spelled
nothing = record { records = []; ends_at = 0; rest = no_rest }

-- the place of a block's first byte
abbrev pub block_front : ℕ → ℕ
block_front at = at - at % BLOCK

-- The chunks stand right one after another from the first place to the second.
abbrev pub IsChunkRow : List ℕ → ℕ → ℕ → List Chunk → ℕ → Type 0
IsChunkRow bytes log from [] to = from ≡ to
IsChunkRow bytes log from (link ∷ links) to = ChunkAt bytes from log link × IsChunkRow bytes log (chunk_end from link) links to

-- The chunk was written when a sync had covered more than the bytes before this place.
abbrev pub CoversMore : ℕ → Chunk → Type 0
CoversMore at chunk = IsSomeAnd chunk.offset (λ covered. at < covered)

-- A sync chunk shows that the bytes at a place are corrupt: it stands in a block that begins after them, one of those that
-- stand one after another from the block's front on, and was written when a sync had covered more than the bytes before them.
pub record ShowsCorrupt (bytes : List ℕ) (log at place : ℕ) : Type 0 where
  pub behind : at < block_front place
  pub row : List Chunk
  pub in_row : IsChunkRow bytes log (block_front place) row place
  pub chunk : Chunk
  pub stands : ChunkAt bytes place log chunk
  pub above : CoversMore at chunk

-- No sync chunk shows it but at this place or a later one.
pub record IsShown (bytes : List ℕ) (log at : ℕ) (shown : Shown) : Type 0 where
  pub at_is : shown.at ≡ at
  pub shows : ShowsCorrupt bytes log at shown.shown_at
  pub least : (place : ℕ) → ShowsCorrupt bytes log at place → shown.shown_at ≤ place

-- what shows that the bytes at a place are corrupt, or that nothing does
abbrev pub TellsShown : List ℕ → ℕ → ℕ → Option Shown → Type 0
TellsShown bytes log at None = (place : ℕ) → ¬ ShowsCorrupt bytes log at place
TellsShown bytes log at (Some shown) = IsShown bytes log at shown

-- A segment reads as the whole records of its longest chain, ends after the last of them, is torn where other bytes than zeros are
-- after it, and is told what shows it corrupt.
pub record ReadsOut (bytes : List ℕ) (log : ℕ) (read : ReadOut) : Type 0 where
  pub links : List Chunk
  pub longest : IsLongestChain bytes log 0 false links
  pub records_are : read.records ≡ (spelled_from 0 nothing links).records
  pub end_is : read.ends_at ≡ (spelled_from 0 nothing links).ends_at
  pub torn_is : read.torn ≡ list_any (λ b. not (b == 0)) (drop read.ends_at bytes)
  pub shown_is : TellsShown bytes log (stopped_at 0 links) read.shown

-- the bytes of records
abbrev pub bytes_of : List Rec → List (List ℕ)
bytes_of records = map (λ (r : Rec). r.bytes) records

-- the bytes of records that carry sync offsets
abbrev pub bytes_marked : List Marked → List (List ℕ)
bytes_marked records = map (λ (r : Marked). r.bytes) records

-- No chunk of the log stands at this place.
abbrev pub NoChunkAt : List ℕ → ℕ → ℕ → Type 0
NoChunkAt bytes at log = (c : Chunk) → ¬ ChunkAt bytes at log c

-- Each chunk of the log in the bytes stands at the same place in the others.
abbrev pub ChunksStandIn : List ℕ → ℕ → List ℕ → Type 0
ChunksStandIn others log bytes = (at : ℕ) (c : Chunk) → ChunkAt bytes at log c → ChunkAt others at log c

-- Some first records lie whole within so many bytes, and no sync offset is above their length.
pub record OffsetsAreWithin (log within : ℕ) (records : List Marked) : Type 0 where
  pub count : ℕ
  pub among : count ≤ length records
  pub whole : length (laid log 0 (take count records)) ≤ within
  pub below : All (λ (r : Marked). r.offset ≤ length (laid log 0 (take count records))) records

-- A prefix of the records was read, and each that is laid within so many bytes is in it.
pub record ReadsPrefix (log within : ℕ) (records : List Marked) (read : List (List ℕ)) : Type 0 where
  pub count : ℕ
  pub first : read ≡ take count (bytes_marked records)
  pub all_within : (k : ℕ) → k ≤ length records → length (laid log 0 (take k records)) ≤ within → k ≤ count
