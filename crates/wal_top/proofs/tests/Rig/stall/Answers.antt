-- Nothing is in flight, as before.
use Rattle.std.proofs.Common.{ap, ◌∙◌}
use Rattle.wal_top.proofs.tests.Rig.stall.Goals as goal

pub invariant_of-self : goal.invariant_of-self
invariant_of-self c id = ap (λ flights. flights id) c.stall.ensures.stalls.same.in_flight ∙ c.self.invariant id
