-- Laws of framing and reading, each as one statement (docs/formats/log.md, "Framing" and "Reading a segment").
use Rattle.crc_chunk.specs.declared.chunk.TheConstants.{BLOCK}
use Rattle.std.specs.Prelude.{◌≡◌, ◌%◌, ◌≤◌, ◌∷◌, ◌++◌, [], ℕ, None, List, length, take}
use Rattle.block_record.specs.declared.records.ReadOut.{ReadOut}
use Rattle.block_record.specs.Framing.{Marked, OffsetsFit, framed, laid}
use Rattle.block_record.specs.ReadOut.{bytes_of, bytes_marked, NoChunkAt, ChunksStandIn, OffsetsAreWithin, ReadsOut, ReadsPrefix}

-- Where records are laid from a segment's front on, the next one is framed at their length in its block.
abbrev pub NextRecordIsLaidAfter : Type 0
NextRecordIsLaidAfter =
    (log : ℕ) (records : List Marked) (next : Marked) → laid log 0 (records ++ next ∷ []) ≡ laid log 0 records ++ framed log
    (length (laid log 0 records) % BLOCK) next.offset next.bytes

-- Records that were laid are read back, whatever is after them, if no chunk of the log stands right there.
abbrev pub LaidRecordsAreRead : Type 0
LaidRecordsAreRead =
    (log : ℕ) (records : List Marked) (bytes tail : List ℕ) (read : ReadOut)
    → OffsetsFit records → bytes ≡ laid log 0 records ++ tail
    → NoChunkAt bytes (length (laid log 0 records)) log → ReadsOut bytes log read → bytes_of read.records ≡ bytes_marked records

-- Of a segment that begins as records were laid, a prefix of them is read, each that is laid within that beginning among
-- them, if each chunk of the log in it stands where it was laid. If no sync offset is above the length of some records that
-- are whole within that beginning, nothing shows it corrupt.
abbrev pub FirstRecordsAreRead : Type 0
FirstRecordsAreRead =
    (log within : ℕ) (records : List Marked) (bytes : List ℕ) (read : ReadOut)
    → OffsetsFit records → within ≤ length (laid log 0 records)
    → take within bytes ≡ take within (laid log 0 records) → ChunksStandIn (laid log 0 records) log bytes → OffsetsAreWithin log within records
    → ReadsOut bytes log read → ReadsPrefix log within records (bytes_of read.records) × (read.shown ≡ None)
