-- What the streams in memory are seen as (docs/formats/disk.md, "Sources and sinks").
use Rattle.std.specs.Prelude.{ℕ, List, [], ◌++◌, drop, Option, None}
use Rattle.wal_base.specs.Faults.{counted}

-- A source in memory: the bytes that are left, its faults, how often it was called, and the call that is to fail.
pub record MemoryLeft : Type 0 where
  pub left : List ℕ
  pub faults : ℕ
  pub calls : ℕ
  pub failing : Option ℕ

-- A sink in memory: the bytes that it took, its faults and shortages, how often it was called, and the call that is to fail.
pub record MemoryWritten : Type 0 where
  pub written : List ℕ
  pub faults : ℕ
  pub shortages : ℕ
  pub calls : ℕ
  pub failing : Option ℕ

-- a source of which the call failed that was to fail
abbrev pub failed_take : MemoryLeft → MemoryLeft
failed_take old = record old { faults = counted old.faults; calls = counted old.calls; failing = None }

-- a source that handed out so many bytes
abbrev pub handed_out : MemoryLeft → ℕ → MemoryLeft
handed_out old count = record old { left = drop count old.left; calls = counted old.calls }

-- a sink that took nothing yet
abbrev pub empty_sink : MemoryWritten
empty_sink = record { written = []; faults = 0; shortages = 0; calls = 0; failing = None }

-- a sink of which the call failed that was to fail
abbrev pub failed_put : MemoryWritten → MemoryWritten
failed_put old = record old { faults = counted old.faults; calls = counted old.calls; failing = None }

-- a sink that took these bytes
abbrev pub taken_in : MemoryWritten → List ℕ → MemoryWritten
taken_in old bytes = record old { written = old.written ++ bytes; calls = counted old.calls }

-- a sink that was out of memory once more
abbrev pub short_once : MemoryWritten → MemoryWritten
short_once old = record old { shortages = counted old.shortages; calls = counted old.calls }
