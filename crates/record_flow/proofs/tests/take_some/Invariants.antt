use Rattle.std.proofs.Common.{◌≡◌}
use Rattle.record_flow.specs.Passes.{flush_queue}
use Rattle.record_flow.proofs.tests.take_some.Given as goal

abbrev pub invariant-loop-number : goal.invariant-loop-number
invariant-loop-number g l = flush_queue l.pass ≡ flush_queue l.initial.pass
