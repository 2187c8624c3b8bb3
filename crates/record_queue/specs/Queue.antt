-- What the queue of a run's records holds (docs/formats/journal.md, "The queue of records").
use Rattle.std.specs.Prelude.{◌≡◌, ℕ, ◌+◌, ◌-◌, ◌^◌, ◌≤◌, ◌<◌, List, length, Some, slice_get}
use Rattle.batch_repr.specs.declared.batch.Batch.{Batch}

-- what a queue holds: the records of a run from a number on (counted from 0), and how many more fit without memory
pub record Queue : Type 0 where
  pub start : ℕ
  pub records : List Batch
  pub spare : ℕ

-- the number after the last record that a queue holds
abbrev pub queue_end : Queue → ℕ
queue_end queue = queue.start + length queue.records

-- The queue holds the record of this number.
abbrev pub Holds : Queue → ℕ → Type 0
Holds queue number = (queue.start ≤ number) × (number < queue_end queue)

-- This is the record of a number that the queue holds.
abbrev pub IsRecordOf : Queue → ℕ → Batch → Type 0
IsRecordOf queue number rec = (queue.start ≤ number) × (slice_get queue.records (number - queue.start) ≡ Some rec)

-- where the numbers of records end
abbrev pub NUMBERS_END : ℕ
NUMBERS_END = 2 ^ 64 - 1
