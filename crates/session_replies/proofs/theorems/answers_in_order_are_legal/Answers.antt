use Rattle.session_replies.proofs.InOrder.{legal_in_order}
use Rattle.session_replies.proofs.theorems.answers_in_order_are_legal.Goals as goal

pub returns : goal.returns
returns c from store base died replies n end le h = legal_in_order from store base died replies n end le h
