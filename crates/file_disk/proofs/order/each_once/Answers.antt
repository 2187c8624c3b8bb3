use Rattle.std.proofs.lemmas.List.{get_or_default}
use Rattle.file_disk.proofs.Once.{once_more}
use Rattle.file_disk.proofs.order.each_once.Goals as goal

pub loop-item-preserved : goal.loop-item-preserved
loop-item-preserved c = once_more c.args.sorted.now c.loop-item.names c.loop-item.item-index _ c.requires c.loop-item-test.true
    (λ d. get_or_default _ _ d _ c.loop-item-test.true) c.loop-item.invariant _ c.in_ok-add_if_later.ensures
