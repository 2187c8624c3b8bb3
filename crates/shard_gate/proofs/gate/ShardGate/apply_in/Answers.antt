use Rattle.std.proofs.Common.{refl}
use Rattle.shard_gate.proofs.AppliesAll.{only_same}
use Rattle.shard_gate.proofs.gate.ShardGate.apply_in.Goals as goal

pub loop-init : goal.loop-init
loop-init g c = record { table = refl; only = only_same (g.H.Holder.view c.args.h.now); pieces = refl; piece = c.requires.piece }
