-- How a segment and a table are named (docs/formats/log.md, "Segment names").
use Rattle.std.specs.Prelude.{◌≡◌, ◌≢◌, ℕ, zero, suc, ◌-◌, List, [], ◌∷◌, ◌++◌, length, replicate, decimal, codes, Option, Some, IsAscii}
use Rattle.disk_face.specs.declared.SegName.{SegName}
use Rattle.disk_face.specs.declared.TableName.{TableName}
use Rattle.disk_face.specs.Listing.{IsSegmentName, IsTableNumber}

-- the decimal digits of a number, with zeros in front up to that width
abbrev pub filled : ℕ → ℕ → List ℕ
filled width n = replicate (width - length (decimal n)) 48 ++ decimal n

-- a dash and the index, or nothing for index 0
abbrev pub index_text : ℕ → List ℕ
index_text zero = []
index_text (suc n) = 45 ∷ filled 3 (suc n)

-- a name without its end: its WAL in at least six digits, and its index in at least three unless it is 0
abbrev pub stem_text : SegName → List ℕ
stem_text name = filled 6 name.wal ++ index_text name.index

-- the one spelling of a name
abbrev pub seg_text : SegName → List ℕ
seg_text name = stem_text name ++ codes ".log"

-- the bytes are the digits of that number, maybe with zeros in front
abbrev pub IsFilled : List ℕ → ℕ → Type 0
IsFilled bytes n = (width : ℕ) × (bytes ≡ filled width n)

-- the text names no segment
abbrev pub NamesNone : List ℕ → Type 0
NamesNone text = (name : SegName) → IsSegmentName name → seg_text name ≢ text

-- a segment that the text names is the one that was found
abbrev pub FindsNamed : List ℕ → Option SegName → Type 0
FindsNamed text found = (name : SegName) → IsSegmentName name → seg_text name ≡ text → found ≡ Some name

-- the one spelling of a table's name: its number in at least six digits
abbrev pub table_name_text : ℕ → List ℕ
table_name_text upto = filled 6 upto ++ codes ".tab"

-- the text names this table
abbrev pub NamesTable : List ℕ → TableName → Type 0
NamesTable text name = (table_name_text name.upto ≡ text) × IsTableNumber name.upto

-- the text names no table
abbrev pub NamesNoTable : List ℕ → Type 0
NamesNoTable text = (upto : ℕ) → IsTableNumber upto → table_name_text upto ≢ text

-- a table that the text names is the one that was found
abbrev pub FindsTable : List ℕ → Option TableName → Type 0
FindsTable text found = (upto : ℕ) → IsTableNumber upto → table_name_text upto ≡ text → found ≡ Some (record { upto = upto })

-- P holds of what stands before that end of a text that ends so
abbrev pub OfEachStem : List ℕ → List ℕ → (List ℕ → Type 0) → Type 0
OfEachStem end text P = (bytes : List ℕ) → IsAscii bytes → text ≡ bytes ++ end → P bytes

-- the stem of a name is cut into the digits of its WAL and those of its index
abbrev pub CutsStem : List ℕ → List ℕ → List ℕ → Type 0
CutsStem stem wal index = (name : SegName) → IsSegmentName name → stem ≡ stem_text name → IsFilled wal name.wal × IsFilled index name.index
