use Rattle.std.proofs.Common.{◌≡◌}
use Rattle.log_writer.proofs.tests.records_of.Given as goal

abbrev pub invariant-loop-len : goal.invariant-loop-len
invariant-loop-len g l = l.queue.start ≡ 0
