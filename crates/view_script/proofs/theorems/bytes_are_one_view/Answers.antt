use Rattle.view_script.proofs.OneAsked.{one_view}
use Rattle.view_script.proofs.theorems.bytes_are_one_view.Goals as goal

pub returns : goal.returns
returns c = one_view
