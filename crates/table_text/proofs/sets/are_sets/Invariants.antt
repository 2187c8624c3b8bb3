use Rattle.std.proofs.Common.{◌≤◌, length}
use Rattle.block_record.specs.ReadOut.{bytes_of}
use Rattle.table_text.specs.Reading.{AreSetsFrom}
use Rattle.table_text.proofs.sets.are_sets.Given as goal

abbrev pub invariant-loop-at : goal.invariant-loop-at
invariant-loop-at l = record { below : l.at ≤ length l.batches; sets : AreSetsFrom l.at l.number l.batches (bytes_of l.records) l.later }

abbrev pub decreases-loop-at : goal.decreases-loop-at
decreases-loop-at l = l.at
