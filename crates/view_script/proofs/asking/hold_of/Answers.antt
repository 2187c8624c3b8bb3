use Rattle.view_script.specs.Asking.{hold}
use Rattle.view_script.proofs.asking.hold_of.Goals as goal

pub returns-clause-asks : goal.returns-clause-asks
returns-clause-asks c = hold c.in_ok-at.at c.in_ok-at.ensures.number.1 (rw c.in_ok-at.ensures.number.0)
