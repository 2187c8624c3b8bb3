use Rattle.record_flow.proofs.OnTheWay.{taken_is_prefix}
use Rattle.record_flow.proofs.theorems.taken_is_a_prefix_of_sent.Goals as goal

pub returns : goal.returns
returns c = taken_is_prefix
