use Rattle.std.proofs.Common.{◌<◌, length, subst, rules}
use Rattle.std.proofs.lemmas.List.{take_all}
use Rattle.std.specs.Prelude.{All}
use Rattle.segment_merge.specs.Rows.{IsNumbered}
use Rattle.segment_merge.proofs.Members.{all_more}
use Rattle.segment_merge.proofs.tests.see_numbered.Goals as goal

pub loop-batch-preserved : goal.loop-batch-preserved
loop-batch-preserved g c =
    let below : c.loop-batch.batch-index < length c.args.batches.now = search rules in
    all_more IsNumbered c.args.batches.now c.loop-batch.batch-index c.batch-item.result below c.batch-item.is c.loop-batch.invariant (search rules)

pub returns : goal.returns
returns g c = subst (All IsNumbered) (take_all c.loop-batch.batch-index c.args.batches.now (search rules)) c.loop-batch.invariant
