-- Laws of a table, each as one statement (docs/formats/table.md, "What a table holds" and "Reading a table").
use Rattle.std.specs.Prelude.{◌≡◌, ◌<◌, ◌≤◌, ◌+◌, ◌-◌, ◌^◌, ℕ, List, ◌++◌, length, take, All}
use Rattle.batch_repr.specs.declared.batch.Batch.{Batch}
use Rattle.batch_repr.specs.Batches.{answer, count_of, entries_in, end_after, IsContiguous}
use Rattle.batch_repr.specs.Limits.{IsWithinLimits}
use Rattle.block_record.specs.declared.records.ReadOut.{ReadOut}
use Rattle.block_record.specs.ReadOut.{ReadsOut}
use Rattle.disk_face.specs.Image.{log_number}
use Rattle.text_lines.specs.Store.{Held, IsStoreOf}
use Rattle.table_text.specs.Tables.{Table, IsTable, IsHeldWithin, ReadsTable, batches_of, table_records, table_text, set_batches}

-- The batches of a table answer what the batches answer whose live keys it has, with any batches after them.
abbrev pub TableStandsForStore : Type 0
TableStandsForStore =
    (base tail : List Batch) (live : List Held) (number : ℕ) (key : List ℕ) → IsStoreOf base live
    → answer (set_batches number live ++ tail) (length (set_batches number live ++ tail)) key ≡ answer (base ++ tail) (length (base ++ tail)) key

-- The first records of a table are those of no table but the same: how many follow stands in the first one.
abbrev pub FirstRecordsAreNoOtherTable : Type 0
FirstRecordsAreNoOtherTable =
    (table other : Table) (n : ℕ) → length table.live < 2 ^ 64 → length other.live < 2 ^ 64 → take n (table_records table) ≡ table_records other
    → table_records other ≡ table_records table

-- So the first records of a table, and all of them, are those of no other table.
abbrev pub NoPartIsAnotherTable : Type 0
NoPartIsAnotherTable =
    (table other : Table) (n : ℕ) → IsTable table → IsTable other → take n (table_records table) ≡ table_records other → other ≡ table

-- Where no more keys are live than numbers are used, contiguous batches leave numbers enough for them below their end.
abbrev pub NumbersAreEnough : Type 0
NumbersAreEnough =
    (first : ℕ) (batches : List Batch) (live : List Held) → IsContiguous first batches → length live ≤ count_of (entries_in batches)
    → first + length live ≤ end_after first batches

-- Live keys are within their limits, with their values, where the entries of the batches are.
abbrev pub LiveKeysAreWithin : Type 0
LiveKeysAreWithin = (batches : List Batch) (live : List Held) → All IsWithinLimits (entries_in batches) → IsStoreOf batches live → All IsHeldWithin live

-- The batches of a table are contiguous, and the last one ends at its `next`.
abbrev pub TableEndsAtNext : Type 0
TableEndsAtNext =
    (table : Table) → IsTable table
    → IsContiguous (table.next - length table.live) (batches_of table) × (end_after (table.next - length table.live) (batches_of table) ≡ table.next)

-- The text of a table reads as that table.
abbrev pub WrittenTableIsRead : Type 0
WrittenTableIsRead =
    (upto : ℕ) (table : Table) (read : ReadOut) → IsTable table → ReadsOut (table_text upto table) (log_number upto) read
    → ReadsTable upto (table_text upto table) table

-- Bytes read as one table at most.
abbrev pub BytesHaveOneTable : Type 0
BytesHaveOneTable = (upto : ℕ) (bytes : List ℕ) (table other : Table) → ReadsTable upto bytes table → ReadsTable upto bytes other → table ≡ other
