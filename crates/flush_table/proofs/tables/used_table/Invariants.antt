-- The tables from a place on were read, and none of them is whole.
use Rattle.std.proofs.Common.{◌≤◌, IsTrue, length, drop}
use Rattle.disk_face.specs.View.{files}
use Rattle.disk_face.specs.Image.{directories}
use Rattle.disk_face.specs.Listing.{IsTableListing}
use Rattle.disk_face.specs.Calls.{GoesOn, SameDisk}
use Rattle.wal_recovery.specs.Answers.{NoFaultRose}
use Rattle.flush_table.specs.Asked.{ReadsTables}
use Rattle.flush_table.specs.Reading.{NoneWhole}
use Rattle.flush_table.proofs.tables.used_table.Given as goal

abbrev pub invariant-loop-at : goal.invariant-loop-at
invariant-loop-at g l = record {
  within : l.at ≤ length l.tables;
  goes : GoesOn (g.D.Disk.view l.initial.disk) (g.D.Disk.view l.disk);
  asks : ReadsTables (drop l.at l.tables) (g.D.Disk.view l.initial.disk) (g.D.Disk.view l.disk);
  same : SameDisk (g.D.Disk.view l.initial.disk) (g.D.Disk.view l.disk);
  calm : NoFaultRose (g.D.Disk.view l.initial.disk) (g.D.Disk.view l.disk);
  none : IsTrue g.D.Disk.tells → IsTableListing (files (g.D.Disk.view l.initial.disk)) l.tables
      → NoneWhole (directories (g.D.Disk.view l.initial.disk)) (drop l.at l.tables);
}

abbrev pub decreases-loop-at : goal.decreases-loop-at
decreases-loop-at g l = l.at
