use Rattle.snapshot_view.proofs.Answers.{ends_alike}
use Rattle.snapshot_view.proofs.theorems.ends_answer_alike.Goals as goal

pub returns : goal.returns
returns c = ends_alike
