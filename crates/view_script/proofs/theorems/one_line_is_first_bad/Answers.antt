use Rattle.view_script.proofs.FirstBad.{one_bad}
use Rattle.view_script.proofs.theorems.one_line_is_first_bad.Goals as goal

pub returns : goal.returns
returns c = one_bad
