-- Nothing is in flight, as before.
use Rattle.std.proofs.Common.{ap, ◌∙◌}
use Rattle.wal_top.proofs.tests.Rig.put_table.Goals as goal

pub invariant_of-self : goal.invariant_of-self
invariant_of-self g c id = ap (λ flights. flights id) c.place_table.ensures.flights ∙ c.self.invariant id
