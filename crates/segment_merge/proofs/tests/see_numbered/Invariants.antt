use Rattle.std.proofs.Common.{take}
use Rattle.std.specs.Prelude.{All}
use Rattle.segment_merge.specs.Rows.{IsNumbered}
use Rattle.segment_merge.proofs.tests.see_numbered.Given as goal

abbrev pub invariant-loop-batch : goal.invariant-loop-batch
invariant-loop-batch g l = All IsNumbered (take l.batch-index l.batches)
