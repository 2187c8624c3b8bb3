use Rattle.std.proofs.Common.{take}
use Rattle.wal_recovery.specs.Recovering.{Spell}
use Rattle.wal_recovery.proofs.decoding.batches_of.Given as goal

abbrev pub invariant-loop-whole : goal.invariant-loop-whole
invariant-loop-whole l = Spell (take l.whole-index l.records) l.so_far
