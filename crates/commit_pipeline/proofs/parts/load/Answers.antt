-- Eight empty shards take the base, batch by batch, in their order, and are settled.
use Rattle.std.proofs.Common.{length, sym, arith, rules}
use Rattle.std.proofs.lemmas.List.{length_push}
use Rattle.std.proofs.lemmas.Option.{slice_get_read}
use Rattle.std.proofs.lemmas.Iterator.Consumers.{YieldsList-turn}
use Rattle.std.proofs.lemmas.Iterator.Adapters.{YieldsList-from_vec}
use Rattle.memtable_shards.specs.declared.sharding.TheConstants.{SHARDS}
use Rattle.memtable_shards.proofs.Laws.{shards_settled}
use Rattle.commit_pipeline.proofs.Loading.{turn, turn_reached, turn_added}
use Rattle.commit_pipeline.proofs.parts.load.Goals as goal

pub apply-requires : goal.apply-requires
apply-requires c =
    let i = length c.loop-batch.yielded in
    let next = YieldsList-turn (YieldsList-from_vec {s = c.into_iter-batch-iterator.result} c.args.base (search rules) (search rules))
    c.loop-batch.yielded c.loop-batch.batch-iterator c.loop-batch.yielded_by c.next.result c.next.new.self c.in-Some.batch c.in-Some.is c.next.ensures.steps in
    let at = turn c.args.base c.args.next i c.in-Some.batch c.requires.base next.0 next.1 in
    record {
      some = at.some;
      within = omega (arith, at.within, c.requires.within);
      reached = turn_reached c.args.base c.args.next i c.in-Some.batch c.loop-batch.shards.items at c.loop-batch.invariant;
    }

pub loop-batch-preserved : goal.loop-batch-preserved
loop-batch-preserved c =
    let i = length c.loop-batch.yielded in
    let next = YieldsList-turn (YieldsList-from_vec {s = c.into_iter-batch-iterator.result} c.args.base (search rules) (search rules))
    c.loop-batch.yielded c.loop-batch.batch-iterator c.loop-batch.yielded_by c.next.result c.next.new.self c.in-Some.batch c.in-Some.is c.next.ensures.steps in
    rw length_push (turn_added c.args.base i c.in-Some.batch c.loop-batch.shards.items c.apply.new.shards.items next.0 next.1
    c.in_ok-apply.ensures c.loop-batch.invariant)

pub loop-place-preserved : goal.loop-place-preserved
loop-place-preserved c =
    shards_settled c.loop-place.shards.items c.args.base c.loop-place.place c.index_mut.result.now c.settle.new.self c.loop-place.invariant
    (slice_get_read c.loop-place.shards.items SHARDS c.loop-place.place c.index_mut.result.now (sym c.loop-place.invariant.eight)
    c.loop-place-test.true c.index_mut.ensures.value) c.settle.ensures.same
