use Rattle.batch_repr.proofs.Fitting.{has_spelling}
use Rattle.batch_repr.proofs.theorems.batches_with_a_spelling_are_spelled.Goals as goal

pub returns : goal.returns
returns c = has_spelling
