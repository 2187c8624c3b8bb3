use Rattle.view_script.specs.Asking.{purge}
use Rattle.view_script.proofs.asking.purge_of.Goals as goal

pub returns-then-is_end-clause-asks : goal.returns-then-is_end-clause-asks
returns-then-is_end-clause-asks c = purge (rw (c.is_end.ensures.0 c.if-is_end.true))
