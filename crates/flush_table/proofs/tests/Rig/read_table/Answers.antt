-- Nothing is in flight, as before.
use Rattle.std.proofs.Common.{ap, ◌∙◌}
use Rattle.flush_table.proofs.tests.Rig.read_table.Goals as goal

pub invariant_of-self : goal.invariant_of-self
invariant_of-self c id = ap (λ flights. flights id) c.read_table.ensures.same.in_flight ∙ c.self.invariant id
