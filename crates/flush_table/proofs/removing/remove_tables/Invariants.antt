-- Those so far are gone, and the others stand.
use Rattle.std.proofs.Common.{IsTrue}
use Rattle.disk_face.specs.View.{NothingInFlight}
use Rattle.disk_face.specs.Calls.{GoesOn}
use Rattle.wal_recovery.specs.Answers.{NoFaultRose}
use Rattle.flush_table.specs.Removing.{table_places, IsAmong, AreRemoved, OnlyRemoves}
use Rattle.flush_table.proofs.removing.remove_tables.Given as goal

abbrev pub invariant-loop-item : goal.invariant-loop-item
invariant-loop-item g l = record {
  goes : GoesOn (g.D.Disk.view l.initial.disk) (g.D.Disk.view l.disk);
  idle : NothingInFlight (g.D.Disk.view l.disk);
  calm : NoFaultRose (g.D.Disk.view l.initial.disk) (g.D.Disk.view l.disk);
  calls : OnlyRemoves (IsAmong (table_places l.tables)) (g.D.Disk.view l.initial.disk) (g.D.Disk.view l.disk);
  removed : IsTrue g.D.Disk.tells → AreRemoved (table_places l.tables) l.item-index (g.D.Disk.view l.initial.disk) (g.D.Disk.view l.disk);
}
