-- The lines that show what the log holds (docs/formats/program.md, "The text of a dump").
use Rattle.std.specs.Prelude.{ℕ, Bool, true, false, List, [], ◌∷◌, ◌++◌, codes}
use Rattle.std.specs.List.{flat_map}
use Rattle.std.specs.Fmt.{decimal}
use Rattle.wal_base.specs.declared.entry.Entry.{Entry}
use Rattle.wal_base.specs.declared.entry.Entry.TheVariants.{Set, Delete, Note, RangeDelete}
use Rattle.batch_repr.specs.declared.batch.Batch.{Batch}
use Rattle.batch_repr.specs.Batches.{count_of}
use Rattle.disk_face.specs.declared.Side.{Side}
use Rattle.disk_face.specs.declared.Side.TheVariants.{Primary, Secondary}
use Rattle.disk_face.specs.Names.{seg_text, table_name_text}
use Rattle.text_lines.specs.declared.segments.SegmentLine.{SegmentLine}
use Rattle.text_lines.specs.declared.segments.TableLine.{TableLine}
use Rattle.text_lines.specs.Printed.{printed}

-- `set K V`, `del K`, `note T` or `rdel K K`
abbrev pub entry_line : Entry → List ℕ
entry_line (Set key value) = codes "set " ++ printed key ++ codes " " ++ printed value ++ 10 ∷ []
entry_line (Delete key) = codes "del " ++ printed key ++ 10 ∷ []
entry_line (Note bytes) = codes "note " ++ printed bytes ++ 10 ∷ []
entry_line (RangeDelete start end) = codes "rdel " ++ printed start ++ codes " " ++ printed end ++ 10 ∷ []

-- `batch FIRST COUNT`, and a line for each entry
abbrev pub batch_lines : Batch → List ℕ
batch_lines batch = codes "batch " ++ decimal batch.first ++ codes " " ++ decimal (count_of batch.entries) ++ 10 ∷ [] ++ flat_map entry_line batch.entries

-- a side, by its name
abbrev pub side_word : Side → List ℕ
side_word Primary = codes "primary"
side_word Secondary = codes "secondary"

-- whether a segment has more than zeros after its last whole record
abbrev pub torn_word : Bool → List ℕ
torn_word true = codes "torn"
torn_word false = codes "clean"

-- `segment NAME SIDE bytes LEN records R ends E T`
abbrev pub segment_line : SegmentLine → ℕ → List ℕ
segment_line segment records =
    codes "segment " ++ seg_text segment.name ++ codes " " ++ side_word segment.side ++ codes " bytes " ++ decimal segment.len ++ codes
    " records " ++ decimal records
    ++ codes " ends " ++ decimal segment.ends_at ++ codes " " ++ torn_word segment.torn ++ 10 ∷ []

-- `table NAME keys L next N`
abbrev pub table_line : TableLine → List ℕ
table_line line =
    codes "table " ++ table_name_text line.name.upto ++ codes " keys " ++ decimal line.keys ++ codes " next " ++ decimal line.next ++ 10 ∷ []

-- `end batches B next N`
unfoldable pub recovered_end : ℕ → ℕ → List ℕ
recovered_end batches next = codes "end batches " ++ decimal batches ++ codes " next " ++ decimal next ++ 10 ∷ []
