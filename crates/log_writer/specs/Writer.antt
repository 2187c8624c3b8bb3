-- What the writer of a segment means to contracts (docs/formats/journal.md, "The writer of a segment").
use Rattle.std.specs.Prelude.{ℕ}
use Rattle.disk_face.specs.declared.Side.{Side}
use Rattle.disk_face.specs.declared.SegName.{SegName}
use Rattle.log_writer.specs.declared.phase.Phase.{Phase}

-- A writer of one segment. Records are counted from 0, over the whole run.
pub record Writer : Type 0 where
  pub side : Side
  pub name : SegName
  -- the log number of its chunks
  pub log : ℕ
  -- the first record of the segment
  pub from : ℕ
  -- the end of what writes were started for
  pub sent : ℕ
  -- the end of what completed writes cover
  pub written : ℕ
  -- the end of what a completed sync covers
  pub synced : ℕ
  -- how many bytes writes were started for
  pub size : ℕ
  -- how many bytes a completed sync covers
  pub synced_bytes : ℕ
  -- where the next record begins in its block
  pub place : ℕ
  -- how often the operation in flight was pending, counted to 1,000
  pub waiting : ℕ
  pub phase : Phase
