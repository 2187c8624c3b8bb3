-- Nothing is in flight, as before.
use Rattle.std.proofs.Common.{ap, ◌∙◌}
use Rattle.disk_face.specs.View.{DiskView}
use Rattle.wal_top.proofs.tests.Rig.fail_table_call.Goals as goal

pub invariant_of-self : goal.invariant_of-self
invariant_of-self g c id = ap (λ (v : DiskView). v.in_flight id) c.fail_table_call.ensures.same ∙ c.self.invariant id
