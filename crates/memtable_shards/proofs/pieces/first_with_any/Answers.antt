-- One list after another is empty.
use Rattle.std.proofs.Common.{◌≡◌, Some, arith, get_or}
use Rattle.std.specs.Prelude.{slice_get}
use Rattle.std.proofs.lemmas.Option.{slice_get-get_or}
use Rattle.memtable_shards.proofs.Cutting.{tested_empty}
use Rattle.memtable_shards.proofs.Handing.{empty_more}
use Rattle.memtable_shards.proofs.pieces.first_with_any.Goals as goal

pub loop-shard-preserved : goal.loop-shard-preserved
loop-shard-preserved c =
    let lists = c.args.lists.now in
    let shard = c.loop-shard.shard in
    let list = get_or lists shard c.index-lists-shard.result in
    let at : slice_get lists shard ≡ Some list =
    slice_get-get_or lists shard c.index-lists-shard.result (omega (arith, c.loop-shard-test.true, c.requires)) in (
      omega (arith, c.loop-shard.invariant.0),
      empty_more lists c.args.from shard list c.loop-shard.invariant.1 at (tested_empty list c.if-not-is_empty.ensures),
    )
