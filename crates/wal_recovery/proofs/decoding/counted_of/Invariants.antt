use Rattle.std.proofs.Common.{◌≡◌, take}
use Rattle.wal_recovery.specs.Recovering.{taking_numbers}
use Rattle.wal_recovery.proofs.decoding.counted_of.Given as goal

abbrev pub invariant-loop-batch : goal.invariant-loop-batch
invariant-loop-batch l = l.counted ≡ taking_numbers (take l.batch-index l.batches)
