use Rattle.std.proofs.Common.{◌≡◌}
use Rattle.record_flow.specs.Passes.{flush_queue}
use Rattle.record_flow.proofs.tests.take_all.Given as goal

abbrev pub invariant-loop : goal.invariant-loop
invariant-loop g l = flush_queue l.pass ≡ flush_queue l.initial.pass
