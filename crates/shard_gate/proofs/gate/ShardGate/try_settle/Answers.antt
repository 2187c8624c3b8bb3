use Rattle.shard_gate.proofs.ReadsNewest.{gives_same}
use Rattle.shard_gate.proofs.gate.ShardGate.try_settle.Goals as goal

pub give_shard-requires-clause-gives : goal.give_shard-requires-clause-gives
give_shard-requires-clause-gives c =
    gives_same c.args.s.now.seat.me.0 c.take_shard.new.h.seat.me.0 c.args.shard c.in-Some.taken c.settle.new.self c.in-Some.ensures.taken c.settle.ensures.same
