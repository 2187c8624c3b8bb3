use Rattle.std.proofs.Common.{◌≡◌, ◌++◌, length, take}
use Rattle.batch_repr.specs.Written.{varint}
use Rattle.batch_repr.proofs.WrittenNumber.{LeftOf}
use Rattle.batch_repr.proofs.writing.push_varint.Given as goal

abbrev pub invariant-loop-rest : goal.invariant-loop-rest
invariant-loop-rest l = record {
  left : LeftOf l.out.items l.rest (l.fn.out.items ++ varint l.n);
  kept : take (length l.fn.out.items) l.out.items ≡ l.fn.out.items;
}

abbrev pub decreases-loop-rest : goal.decreases-loop-rest
decreases-loop-rest l = l.rest
