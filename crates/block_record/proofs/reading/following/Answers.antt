use Rattle.block_record.specs.Joined.{link_in}
use Rattle.block_record.proofs.Chains.{refused}
use Rattle.block_record.proofs.reading.following.Goals as goal

pub returns-else-may_follow-clause-none : goal.returns-else-may_follow-clause-none
returns-else-may_follow-clause-none c = refused c.args.at c.args.is_open (link_in c.args.bytes.now c.in_ok-found.found) c.in_ok-found.ensures.found
    c.may_follow.ensures c.if-may_follow.false
