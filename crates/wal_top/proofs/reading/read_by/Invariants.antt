use Rattle.std.proofs.Common.{◌≤◌}
use Rattle.wal_top.proofs.AddsPiece.{SoFar}
use Rattle.wal_top.proofs.reading.read_by.Given as goal

abbrev pub invariant-loop-room : goal.invariant-loop-room
invariant-loop-room g l = record {
  so_far : SoFar (g.S.Source.left l.fn.src) (g.S.Source.left l.src) l.script l.room;
  later : g.S.Source.faults l.fn.src ≤ g.S.Source.faults l.src;
}

abbrev pub decreases-loop-room : goal.decreases-loop-room
decreases-loop-room g l = l.room
