use Rattle.view_script.proofs.FirstBad.{none_bad}
use Rattle.view_script.proofs.theorems.asked_lines_are_not_bad.Goals as goal

pub returns : goal.returns
returns c = none_bad
