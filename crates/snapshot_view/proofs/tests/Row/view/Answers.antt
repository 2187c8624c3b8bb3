use Rattle.std.proofs.Common.{◌≡◌, ◌≤◌, List, arith}
use Rattle.batch_repr.proofs.Laws.{end_up}
use Rattle.snapshot_view.proofs.tests.Row.view.Goals as goal

pub build-requires : goal.build-requires
build-requires g c = record {
  start = 10;
  row = c.self.invariant.0;
  from = omega arith;
  to = end_up 10 c.self.inside.batches c.self.invariant.0;
  small = λ some. omega (arith, c.self.invariant.1, c.self.invariant.2);
}
