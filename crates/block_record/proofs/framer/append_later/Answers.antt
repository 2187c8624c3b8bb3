use Rattle.std.proofs.Common.{arith}
use Rattle.std.proofs.lemmas.Grind.{common_steps}
use Rattle.std.proofs.lemmas.Result.{on_ok_weaker}
use Rattle.block_record.proofs.Fragments.{next_block, last_block}
use Rattle.block_record.proofs.framer.append_later.Goals as goal

pub loop-rest-preserved : goal.loop-rest-preserved
loop-rest-preserved c = record {
  left = next_block c.args.log c.args.offset c.loop-rest.out c.append_chunk.new.out c.loop-rest.rest.now _ _ _ c.loop-rest-test.true c.split_at.ensures.front c.split_at.ensures.back c.in_ok-append_chunk.ensures.ok c.loop-rest.invariant.left;
  some = grind (arith, common_steps);
  kept = grind (arith, common_steps);
}

pub returns-clause-ok : goal.returns-clause-ok
returns-clause-ok c = on_ok_weaker _ (last_block c.args.log c.args.offset c.loop-rest.out c.append_chunk-2.new.out c.loop-rest.rest.now _ c.loop-rest.invariant.some c.loop-rest-test.false c.loop-rest.invariant.left) c.append_chunk-2.ensures.ok
