use Rattle.view_script.specs.Asking.{release}
use Rattle.view_script.proofs.asking.release_of.Goals as goal

pub returns-clause-asks : goal.returns-clause-asks
returns-clause-asks c = release c.in_ok-hold.hold c.in_ok-hold.ensures.number.1 (rw c.in_ok-hold.ensures.number.0)
