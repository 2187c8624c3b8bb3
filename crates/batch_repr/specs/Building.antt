-- Which entries fit one batch, and what a builder refuses (docs/formats/log.md, "Limits").
use Rattle.std.specs.Prelude.{◌≡◌, ℕ, ◌<◌, ◌≤◌, List, [], ◌∷◌, ◌++◌, length, All, Option, Some, None, Result, Ok, Err, nat_lt, if◌then◌else◌}
use Rattle.wal_base.specs.declared.entry.Entry.{Entry}
use Rattle.wal_base.specs.declared.entry.Entry.TheVariants.{Set, Delete, Note, RangeDelete}
use Rattle.batch_repr.specs.declared.fault.BuildFault.{BuildFault}
use Rattle.batch_repr.specs.declared.fault.BuildFault.TheVariants as faults
use Rattle.batch_repr.specs.declared.limits.TheConstants.{KEY_MAX, VALUE_MAX, BATCH_MAX, NUMBER_MAX}
use Rattle.batch_repr.specs.declared.batch.Batch.{Batch}
use Rattle.batch_repr.specs.Batches.{count_of, end_of}
use Rattle.batch_repr.specs.Limits.{IsWithinLimits}
use Rattle.batch_repr.specs.Written.{written_len}

-- The entries fit one batch: each within its limits, and all of them as they are written.
pub record FitsBatch (entries : List Entry) : Type 0 where
  pub limits : All IsWithinLimits entries
  pub size : written_len entries ≤ BATCH_MAX

-- The batch has a spelling: its entries fit one, and its numbers end within the numbers.
pub record HasSpelling (batch : Batch) : Type 0 where
  pub fits : FitsBatch batch.entries
  pub numbers : end_of batch ≤ NUMBER_MAX

-- The entries fit one batch, which has so many bytes as it is written.
pub record FitsIn (entries : List Entry) (size : ℕ) : Type 0 where
  pub fits : FitsBatch entries
  pub size_is : size ≡ written_len entries

-- The entries make one batch: they fit it, and some of them takes a number.
pub record MakesBatch (entries : List Entry) : Type 0 where
  pub fits : FitsBatch entries
  pub some : 0 < count_of entries

-- a batch of this length is too long, or not
abbrev pub room_fault : ℕ → Option BuildFault
room_fault len = if nat_lt BATCH_MAX len then Some (faults.BatchTooLong len) else None

-- a value is too long; else the other reason
abbrev pub value_fault : List ℕ → Option BuildFault → Option BuildFault
value_fault value other = if nat_lt VALUE_MAX (length value) then Some (faults.ValueTooLong (length value)) else other

-- a key is too long; else the other reason
abbrev pub key_fault : List ℕ → Option BuildFault → Option BuildFault
key_fault key other = if nat_lt KEY_MAX (length key) then Some (faults.KeyTooLong (length key)) else other

-- why an entry is refused after others, the first reason first
abbrev pub refusal : List Entry → Entry → Option BuildFault
refusal entries (Set key value) = key_fault key (value_fault value (room_fault (written_len (entries ++ Set key value ∷ []))))
refusal entries (Delete key) = key_fault key (room_fault (written_len (entries ++ Delete key ∷ [])))
refusal entries (Note bytes) = value_fault bytes (room_fault (written_len (entries ++ Note bytes ∷ [])))
refusal entries (RangeDelete start end) = key_fault start (key_fault end (room_fault (written_len (entries ++ RangeDelete start end ∷ []))))

-- It is refused exactly for that reason, unless memory ran out.
abbrev pub RefusedAs : Result (Unit {0}) BuildFault → Option BuildFault → Type 0
RefusedAs (Ok done) reason = reason ≡ None
RefusedAs (Err faults.NoMemory) reason = Unit {0}
RefusedAs (Err fault) reason = reason ≡ Some fault
