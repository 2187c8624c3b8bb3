use Rattle.std.proofs.Common.{◌≤◌, length}
use Rattle.wal_top.proofs.WrittenSoFar.{WroteFront}
use Rattle.wal_top.proofs.writing.write_all.Given as goal

abbrev pub invariant-loop-rest : goal.invariant-loop-rest
invariant-loop-rest g l = record {
  so_far : WroteFront (g.K.Sink.written l.fn.out) (g.K.Sink.written l.out) l.text l.rest;
  faults_later : g.K.Sink.faults l.fn.out ≤ g.K.Sink.faults l.out;
  shortages_later : g.K.Sink.shortages l.fn.out ≤ g.K.Sink.shortages l.out;
}

abbrev pub decreases-loop-rest : goal.decreases-loop-rest
decreases-loop-rest g l = length l.rest
