use Rattle.commit_queue.proofs.GivesSame.{gives_same, same_versions}
use Rattle.commit_queue.proofs.tests.Rig.give_back_and_wake.Goals as goal

pub give_shard-requires-clause-gives : goal.give_shard-requires-clause-gives
give_shard-requires-clause-gives g c = gives_same _ _ _ c.in-Some.shard c.in-Some.shard c.in-Some.ensures.taken (same_versions c.in-Some.shard)
