use Rattle.session_replies.proofs.Exhausted.{limited_exactly}
use Rattle.session_replies.proofs.theorems.limits_are_exact.Goals as goal

pub returns : goal.returns
returns c from base died rounds batches replies legal = limited_exactly from base died rounds batches replies legal
