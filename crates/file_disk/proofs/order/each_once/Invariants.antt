use Rattle.file_disk.proofs.Once.{Once}
use Rattle.file_disk.proofs.order.each_once.Given as goal

abbrev pub invariant-loop-item : goal.invariant-loop-item
invariant-loop-item l = Once l.sorted l.names l.item-index
