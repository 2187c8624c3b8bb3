-- Those so far are gone, and the others stand.
use Rattle.std.proofs.Common.{IsTrue}
use Rattle.disk_face.specs.View.{NothingInFlight}
use Rattle.disk_face.specs.Calls.{GoesOn}
use Rattle.wal_recovery.specs.Answers.{NoFaultRose}
use Rattle.flush_table.specs.Removing.{segment_places, IsAmong, AreRemoved, OnlyRemoves}
use Rattle.flush_table.proofs.removing.remove_segments.Given as goal

abbrev pub invariant-loop-item : goal.invariant-loop-item
invariant-loop-item g l = record {
  goes : GoesOn (g.D.Disk.view l.initial.disk) (g.D.Disk.view l.disk);
  idle : NothingInFlight (g.D.Disk.view l.disk);
  calm : NoFaultRose (g.D.Disk.view l.initial.disk) (g.D.Disk.view l.disk);
  calls : OnlyRemoves (IsAmong (segment_places l.side l.names)) (g.D.Disk.view l.initial.disk) (g.D.Disk.view l.disk);
  removed : IsTrue g.D.Disk.tells → AreRemoved (segment_places l.side l.names) l.item-index (g.D.Disk.view l.initial.disk) (g.D.Disk.view l.disk);
}
