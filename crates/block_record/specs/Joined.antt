-- Records as places in the bytes of their segment, whose fragments are joined where they stand (docs/formats/log.md, "Reading a segment").
use Rattle.std.specs.Prelude.{◌≡◌, ℕ, ◌-◌, ◌≤◌, List, [], ◌∷◌, length, drop, map}
use Rattle.std.specs.List.{slice_range}
use Rattle.block_record.specs.declared.records.Rec.{Rec}
use Rattle.block_record.specs.declared.joining.Place.{Place}
use Rattle.block_record.specs.declared.joining.Found.{Found}
use Rattle.crc_chunk.specs.Chunk.{Chunk}
use Rattle.block_record.specs.ReadOut.{Spelled}

-- the record whose bytes stand there
abbrev pub rec_in : List ℕ → Place → Rec
rec_in bytes place = record { at = place.at; bytes = slice_range bytes place.from place.to }

-- what these places of a segment spell: whole records, the place after the last chunk of the last, and the rest
abbrev pub spelled_in : List ℕ → List Place → ℕ → Place → Spelled
spelled_in bytes whole ends_at rest = record { records = map (rec_in bytes) whole; ends_at = ends_at; rest = rec_in bytes rest }

-- the chunk that was found in these bytes, as one of a chain
abbrev pub link_in : List ℕ → Found → Chunk
link_in bytes found = record { kind = found.kind; offset = found.offset; payload = slice_range bytes found.from found.end }

-- the record whose bytes stand there in a segment of which these bytes were cut off
abbrev pub rec_after : ℕ → List ℕ → Place → Rec
rec_after cut bytes place = record { at = place.at; bytes = slice_range bytes (place.from - cut) (place.to - cut) }

-- The place begins before it ends, and ends by here.
pub record EndsWithin (end : ℕ) (place : Place) : Type 0 where
  pub order : place.from ≤ place.to
  pub below : place.to ≤ end

-- The place begins at the first of these or after it, and ends by the second.
pub record StandsBetween (start end : ℕ) (place : Place) : Type 0 where
  pub above : start ≤ place.from
  pub order : place.from ≤ place.to
  pub below : place.to ≤ end

-- The places lie between these two, and each after the one before it.
abbrev pub AreApart : ℕ → ℕ → List Place → Type 0
AreApart start end [] = start ≤ end
AreApart start end (place ∷ places) = StandsBetween start end place × AreApart place.to end places

-- Each whole record lies after the one before it, the rest after them, and that within the bytes.
pub record IsApart (bytes : List ℕ) (whole : List Place) (rest : Place) : Type 0 where
  pub before : AreApart 0 rest.from whole
  pub within : EndsWithin (length bytes) rest

-- The bytes from this place on are as they were, and there are as many bytes as before.
pub record SameAfter (end : ℕ) (old new : List ℕ) : Type 0 where
  pub len : length new ≡ length old
  pub behind : drop end new ≡ drop end old

-- What was read: the bytes as they are now, what they have spelled, and the place after the last byte of it.
pub record Joined : Type 0 where
  pub bytes : List ℕ
  pub spelled : Spelled
  pub reach : ℕ

-- what is joined at these places
abbrev pub joined_at : List ℕ → List Place → ℕ → Place → Joined
joined_at bytes whole ends_at rest = record { bytes = bytes; spelled = spelled_in bytes whole ends_at rest; reach = rest.to }
