use Rattle.std.proofs.Common.{◌≡◌, ◌++◌, length, take}
use Rattle.wal_recovery.proofs.merging.append.Given as goal

abbrev pub invariant-loop-batch : goal.invariant-loop-batch
invariant-loop-batch l = l.batches ≡ l.fn.batches ++ take (length l.yielded) l.fn.more
