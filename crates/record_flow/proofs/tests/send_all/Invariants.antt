use Rattle.std.proofs.Common.{◌≡◌}
use Rattle.record_flow.specs.Passes.{send_queue}
use Rattle.record_flow.proofs.tests.send_all.Given as goal

abbrev pub invariant-loop : goal.invariant-loop
invariant-loop g l = send_queue l.sender.pass ≡ send_queue l.initial.sender.pass
