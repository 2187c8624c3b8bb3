use Rattle.std.proofs.Common.{refl, arith}
use Rattle.mem_disk.proofs.Chances.{sent_within}
use Rattle.mem_disk.proofs.chance.are_chunks_sent.Goals as goal

pub returns : goal.returns
returns c = ((λ t. sent_within c.args.bytes.now c.args.sent.now c.args.log (λ at lt. c.loop-at.invariant at (omega arith))), (λ all. refl))
