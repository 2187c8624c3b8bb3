-- Reading a table (docs/formats/table.md, "Reading a table").
use Rattle.batch_repr.specs.declared.limits.TheConstants.{NUMBER_FIRST, NUMBER_MAX}
use Rattle.std.specs.Prelude.{◌≡◌, ℕ, ◌+◌, ◌≤◌, Bool, MatchBool, Option, Some, None, IsSomeAnd, List, [], ◌∷◌, ◌++◌, length, map, drop, All}
use Rattle.std.specs.Borrow.{Bor}
use Rattle.batch_repr.specs.declared.batch.Batch.{Batch}
use Rattle.batch_repr.specs.Batches.{end_of}
use Rattle.batch_repr.specs.Building.{FitsBatch}
use Rattle.batch_repr.specs.Written.{written}
use Rattle.text_lines.specs.Store.{Held, IsKeyBefore, AscendsByKey}
use Rattle.table_text.specs.declared.reading.TableRead.{TableRead}
use Rattle.table_text.specs.Tables.{Table, IsTable, IsHeldWithin, IsWhole, ReadsTable, set_batch, set_batches, batches_of, head_bytes, table_records, table_text}

-- What was read tells of this table.
pub record TellsOfTable (table : Table) (read : TableRead) : Type 0 where
  pub next_is : read.next ≡ table.next
  pub keys_is : read.keys ≡ length table.live
  pub batches_are : read.batches ≡ batches_of table

-- The bytes read as a table, of which this tells.
pub record IsReadAs (upto : ℕ) (bytes : List ℕ) (read : TableRead) : Type 0 where
  pub table : Table
  pub reads : ReadsTable upto bytes table
  pub tells : TellsOfTable table read

-- what the bytes read as, or that they are not whole
abbrev pub TellsTable : ℕ → List ℕ → Option TableRead → Type 0
TellsTable upto bytes None = ¬ IsWhole upto bytes
TellsTable upto bytes (Some read) = IsReadAs upto bytes read

-- What is written for a table is told of that table.
abbrev pub TellsWritten : ℕ → List ℕ → Option TableRead → Type 0
TellsWritten upto bytes found = (table : Table) → IsTable table → bytes ≡ table_text upto table → IsSomeAnd found (TellsOfTable table)

-- The records are those of a table, of which this tells.
pub record AreRecordsOf (records : List (List ℕ)) (read : TableRead) : Type 0 where
  pub table : Table
  pub is : IsTable table
  pub same : records ≡ table_records table
  pub tells : TellsOfTable table read

-- the table whose records these are, or that they are those of none
abbrev pub TellsRecords : List (List ℕ) → Option TableRead → Type 0
TellsRecords records None = (table : Table) → IsTable table → ¬ (records ≡ table_records table)
TellsRecords records (Some read) = AreRecordsOf records read

-- The bytes are the first record of a table of so many keys, with this `next`.
pub record IsHead (bytes : List ℕ) (keys next : ℕ) : Type 0 where
  pub bytes_are : bytes ≡ head_bytes next keys
  pub least : NUMBER_FIRST + keys ≤ next
  pub most : next ≤ NUMBER_MAX

-- A batch is read back from what is written for it.
pub record IsReadBack (batch : Batch) : Type 0 where
  pub fits : FitsBatch batch.entries
  pub ends : end_of batch ≤ NUMBER_MAX

-- One batch more was read: where the text is what is written for one, that one.
pub record ReadsMore (text : List ℕ) (old new : List Batch) : Type 0 where
  pub count : length new ≡ length old + 1
  pub only : (batch : Batch) → IsReadBack batch → text ≡ written batch → new ≡ old ++ batch ∷ []

-- with one batch more, or that the text is not what is written for one
abbrev pub TellsMore : List ℕ → List Batch → Option (List Batch) → Type 0
TellsMore text old None = (batch : Batch) → IsReadBack batch → ¬ (text ≡ written batch)
TellsMore text old (Some new) = ReadsMore text old new

-- Where the records are what is written for some batches, these were read.
pub record ReadsBack (records : List (List ℕ)) (batches : List Batch) : Type 0 where
  pub count : length batches ≡ length records
  pub only : (others : List Batch) → All IsReadBack others → records ≡ map written others → batches ≡ others

-- the batches that were read, or that the records are not what is written for some
abbrev pub TellsBatches : List (List ℕ) → Option (List Batch) → Type 0
TellsBatches records None = (others : List Batch) → All IsReadBack others → ¬ (records ≡ map written others)
TellsBatches records (Some batches) = ReadsBack records batches

-- The bytes are what is written for a key with its value, by this number.
abbrev pub IsWrittenFor : ℕ → List ℕ → List ℕ → List ℕ → Type 0
IsWrittenFor number key value bytes = bytes ≡ written (set_batch number (record { key = key; value = value }))

-- The batch is the one of this key and number, and the record is what is written for it.
pub record IsSet (number : ℕ) (batch : Batch) (bytes : List ℕ) (held : Held) : Type 0 where
  pub within : IsHeldWithin held
  pub batch_is : batch ≡ set_batch number held
  pub bytes_are : bytes ≡ written (set_batch number held)

-- The batch is one of a key and this number: it has this key.
pub record IsSetOfKey (number : ℕ) (batch : Batch) (bytes : List ℕ) (key : Bor (List ℕ)) : Type 0 where
  pub held : Held
  pub is : IsSet number batch bytes held
  pub key_is : held.key ≡ key.now

-- the key of such a batch, or that it is none
abbrev pub TellsKey : ℕ → List ℕ → Batch → Option (Bor (List ℕ)) → Type 0
TellsKey number bytes batch None = (held : Held) → ¬ IsSet number batch bytes held
TellsKey number bytes batch (Some key) = IsSetOfKey number batch bytes key

-- The key stands before the later one, if there is one.
abbrev pub IsBeforeLater : List ℕ → Option (Bor (List ℕ)) → Type 0
IsBeforeLater key None = Unit {0}
IsBeforeLater key (Some later) = IsKeyBefore key later.now

-- The batches are those of some keys, numbered from here on, and the records are what is written for them.
pub record AreSets (number : ℕ) (batches : List Batch) (records : List (List ℕ)) : Type 0 where
  pub live : List Held
  pub ascends : AscendsByKey live
  pub within : All IsHeldWithin live
  pub batches_are : batches ≡ set_batches number live
  pub records_are : records ≡ map written (set_batches number live)

-- They are, or they are not.
abbrev pub DecidesSets : ℕ → List Batch → List (List ℕ) → Bool → Type 0
DecidesSets number batches records are = MatchBool are (AreSets number batches records) (¬ AreSets number batches records)

-- the first of these keys
abbrev pub IsFirstKey : Option (Bor (List ℕ)) → List Held → Type 0
IsFirstKey None [] = Unit {0}
IsFirstKey None (held ∷ later) = ⊥
IsFirstKey (Some key) [] = ⊥
IsFirstKey (Some key) (held ∷ later) = held.key ≡ key.now

-- They are, from a place on, and the first of the keys there is this one.
pub record AreSetsFrom (at number : ℕ) (batches : List Batch) (records : List (List ℕ)) (first : Option (Bor (List ℕ))) : Type 0 where
  pub sets : AreSets (number + at) (drop at batches) (drop at records)
  pub first_is : IsFirstKey first sets.live
