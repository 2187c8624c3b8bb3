-- What is left of the batches stands behind those that were added.
use Rattle.std.proofs.Common.{◌≡◌, ◌++◌, length, drop}
use Rattle.std.specs.Arc.{arc_value}
use Rattle.batch_repr.specs.Blocks.{batches_over, Divide}
use Rattle.batch_repr.proofs.reader.share_block.Given as goal

abbrev pub invariant-loop-head : goal.invariant-loop-head
invariant-loop-head l = record {
  left : l.batches ++ batches_over l.from (drop l.head-index l.heads) (arc_value l.block).items
      ≡ l.initial.batches ++ batches_over 0 l.heads (arc_value l.block).items;
  divide : Divide l.from (drop l.head-index l.heads) (length (arc_value l.block).items);
}
