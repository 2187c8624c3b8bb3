use Rattle.std.proofs.Common.{arith}
use Rattle.memtable_shards.proofs.Rigs.{settled_rig}
use Rattle.memtable_shards.proofs.tests.Rig.settle.Goals as goal

pub invariant_of-self-in_err-settle : goal.invariant_of-self-in_err-settle
invariant_of-self-in_err-settle c =
    settled_rig c.loop-at.self-inside.shards.items c.loop-at.self-inside.next c.loop-at.at c.index_mut.result.now c.settle.new.self c.loop-at.invariant
    c.index_mut.ensures.value
    (omega (arith, c.loop-at-test.true, c.loop-at.invariant.3.eight)) c.settle.ensures.same

pub loop-at-preserved : goal.loop-at-preserved
loop-at-preserved c =
    settled_rig c.loop-at.self-inside.shards.items c.loop-at.self-inside.next c.loop-at.at c.index_mut.result.now c.settle.new.self c.loop-at.invariant
    c.index_mut.ensures.value
    (omega (arith, c.loop-at-test.true, c.loop-at.invariant.3.eight)) c.settle.ensures.same
