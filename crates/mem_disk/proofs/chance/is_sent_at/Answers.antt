use Rattle.std.proofs.Common.{refl}
use Rattle.mem_disk.proofs.Chances.{sent_where_same}
use Rattle.mem_disk.proofs.chance.is_sent_at.Goals as goal

pub returns-in-None : goal.returns-in-None
returns-in-None c = ((λ t size h. absurd (c.in-None.ensures.none size h)), (λ all. refl))

pub returns-in-Some : goal.returns-in-Some
returns-in-Some c = sent_where_same c.args.bytes.now c.args.sent.now c.args.log c.args.at c.in-Some.size c.has_same.result
    c.in-Some.ensures.some c.has_same.ensures
