use Rattle.view_runner.proofs.Rows.{no_row}
use Rattle.view_runner.proofs.tests.Row.new.Goals as goal

pub invariant_of-result : goal.invariant_of-result
invariant_of-result c = no_row _ c.new.ensures
