use Rattle.view_runner.proofs.OneText.{one_text}
use Rattle.view_runner.proofs.theorems.views_have_one_text.Goals as goal

pub returns : goal.returns
returns c batches floor lines one other a b = one_text batches floor lines one other a b
