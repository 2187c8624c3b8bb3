-- Nothing is in flight, as before.
use Rattle.std.proofs.Common.{ap, ◌∙◌}
use Rattle.flush_table.proofs.tests.Rig.table.Goals as goal

pub invariant_of-self : goal.invariant_of-self
invariant_of-self g c id = ap (λ flights. flights id) c.put_table.ensures.flights ∙ c.self.invariant id
