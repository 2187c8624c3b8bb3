use Rattle.view_runner.proofs.Rows.{can_be_viewed}
use Rattle.view_runner.proofs.tests.Row.says.Goals as goal

pub view_text-requires : goal.view_text-requires
view_text-requires g c = can_be_viewed c.self.inside.batches c.self.inside.next c.self.invariant
