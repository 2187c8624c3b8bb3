use Rattle.session_replies.proofs.OneReplies.{one_reply}
use Rattle.session_replies.proofs.theorems.one_session_fixes_the_replies.Goals as goal

pub returns : goal.returns
returns c from base died other_died rounds batches others replies other_replies ones a b dead =
    one_reply from base died other_died rounds batches others replies other_replies ones a b dead
