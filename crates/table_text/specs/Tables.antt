-- A table: the live keys of a store, each as a batch of its own (docs/formats/table.md, "What a table holds" and "The text of a table").
use Rattle.batch_repr.specs.declared.limits.TheConstants.{NUMBER_FIRST, NUMBER_MAX}
use Rattle.std.specs.Prelude.{◌≡◌, ℕ, suc, ◌+◌, ◌-◌, ◌≤◌, List, [], ◌∷◌, ◌++◌, length, map, All}
use Rattle.std.specs.Int.{w64, to_le_bytes}
use Rattle.wal_base.specs.declared.entry.Entry.{Entry}
use Rattle.wal_base.specs.declared.entry.Entry.TheVariants.{Set}
use Rattle.batch_repr.specs.declared.batch.Batch.{Batch}
use Rattle.batch_repr.specs.Limits.{IsWithinLimits}
use Rattle.batch_repr.specs.Written.{written}
use Rattle.block_record.specs.declared.records.ReadOut.{ReadOut}
use Rattle.block_record.specs.Framing.{Marked, laid}
use Rattle.block_record.specs.ReadOut.{ReadsOut, bytes_of}
use Rattle.disk_face.specs.Image.{log_number}
use Rattle.text_lines.specs.Store.{Held, AscendsByKey}

-- the entry that leaves a key with its value
abbrev pub set_of : Held → Entry
set_of held = Set held.key held.value

-- The key and the value are within their limits.
abbrev pub IsHeldWithin : Held → Type 0
IsHeldWithin held = IsWithinLimits (set_of held)

-- the batch of that entry alone, by this number
abbrev pub set_batch : ℕ → Held → Batch
set_batch number held = record { first = number; entries = set_of held ∷ [] }

-- one batch for each key, numbered one after another
unfoldable pub set_batches : ℕ → List Held → List Batch
set_batches number [] = []
set_batches number (held ∷ later) = set_batch number held ∷ set_batches (suc number) later

-- What a table holds: the number that comes next, and the live keys with their values.
pub record Table : Type 0 where
  pub next : ℕ
  pub live : List Held

-- the table of these
abbrev pub table_with : ℕ → List Held → Table
table_with next live = record { next = next; live = live }

-- The keys stand in the order of bytes, each once; all are within their limits; and there are numbers enough for them below `next`.
pub record IsTable (table : Table) : Type 0 where
  pub ascends : AscendsByKey table.live
  pub within : All IsHeldWithin table.live
  pub least : NUMBER_FIRST + length table.live ≤ table.next
  pub most : table.next ≤ NUMBER_MAX

-- the batches of a table: the last one ends at `next`
abbrev pub batches_of : Table → List Batch
batches_of table = set_batches (table.next - length table.live) table.live

-- the first record of a table: the number that comes next, and how many keys follow
abbrev pub head_bytes : ℕ → ℕ → List ℕ
head_bytes next keys = to_le_bytes w64 next ++ to_le_bytes w64 keys

abbrev pub table_head : Table → List ℕ
table_head table = head_bytes table.next (length table.live)

-- the records of a table
abbrev pub table_records : Table → List (List ℕ)
table_records table = table_head table ∷ map written (batches_of table)

-- a record with the sync offset 0
abbrev pub unsynced : List ℕ → Marked
unsynced bytes = record { offset = 0; bytes = bytes }

-- the text of a table: its records framed one after another
abbrev pub table_text : ℕ → Table → List ℕ
table_text upto table = laid (log_number upto) 0 (map unsynced (table_records table))

-- The bytes read as this table: the records in them are exactly its own.
pub record ReadsTable (upto : ℕ) (bytes : List ℕ) (table : Table) : Type 0 where
  pub is : IsTable table
  pub read : ReadOut
  pub reads : ReadsOut bytes (log_number upto) read
  pub same : bytes_of read.records ≡ table_records table

-- They read as some table.
abbrev pub IsWhole : ℕ → List ℕ → Type 0
IsWhole upto bytes = (table : Table) × ReadsTable upto bytes table
