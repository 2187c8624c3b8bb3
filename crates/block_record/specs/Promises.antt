-- What the writer and the reader of records promise (docs/formats/log.md, "Framing" and "Reading a segment").
use Rattle.std.specs.Prelude.{◌≡◌, ℕ, ◌+◌, ◌≤◌, Bool, List, ◌++◌, length}
use Rattle.std.specs.List.{slice_range}
use Rattle.crc_chunk.specs.Chunk.{Chunk, header_with, ChunkAt}
use Rattle.block_record.specs.declared.joining.Found.{Found}
use Rattle.block_record.specs.Framing.{Standing, framed}
use Rattle.block_record.specs.ReadOut.{MayFollow, Spelled, ended, after_link, next_place}
use Rattle.block_record.specs.Joined.{Joined, link_in}

-- ---- a writer

-- a record as it is framed where a framer stands, with its sync offset
abbrev pub framed_by : Standing → ℕ → List ℕ → List ℕ
framed_by standing offset bytes = framed standing.log standing.place offset bytes

-- Any record of this length has so many bytes where it is framed there.
abbrev pub FramesTo : Standing → ℕ → ℕ → Type 0
FramesTo standing len size = (offset : ℕ) (bytes : List ℕ) → length bytes ≡ len → size ≡ length (framed_by standing offset bytes)

-- ---- a reader

-- A chunk of the log, as it was found, stands at this place.
abbrev pub IsChunkFound : List ℕ → ℕ → ℕ → Found → Type 0
IsChunkFound bytes log at found = ChunkAt bytes at log (link_in bytes found)

-- What is found stands at this place, and has a header, and ends within the bytes.
abbrev pub IsFoundAt : List ℕ → ℕ → Found → Type 0
IsFoundAt bytes at found = (found.at ≡ at) × (found.from ≡ at + header_with found.offset) × (found.from ≤ found.end) × (found.end ≤ length bytes)

-- No chunk of the log that may follow stands at this place.
abbrev pub NoChunkFollows : List ℕ → ℕ → ℕ → Bool → Type 0
NoChunkFollows bytes log at is_open = (c : Chunk) → MayFollow is_open c.kind → ¬ ChunkAt bytes at log c

-- where the chunk after the one that was found would stand
abbrev pub place_behind : Found → ℕ
place_behind found = next_place (header_with found.offset) found.end

-- what is spelled once a record has begun with these bytes
abbrev pub spelled_begun : ℕ → ℕ → ℕ → Joined → Spelled
spelled_begun at from end joined = record joined.spelled { rest = record { at = at; bytes = slice_range joined.bytes from end } }

-- what is spelled with these bytes more of the record that is open
abbrev pub spelled_more : ℕ → ℕ → Joined → Spelled
spelled_more from end joined =
    record joined.spelled { rest = record { at = joined.spelled.rest.at; bytes = joined.spelled.rest.bytes ++ slice_range joined.bytes from end } }

-- what is spelled with the chunk that was found
abbrev pub spelled_with : Found → Joined → Spelled
spelled_with found joined = after_link found.at joined.spelled (link_in joined.bytes found)

-- what is spelled once the open record ends here
abbrev pub spelled_to : ℕ → Joined → Spelled
spelled_to end joined = ended joined.spelled end joined.spelled.rest
