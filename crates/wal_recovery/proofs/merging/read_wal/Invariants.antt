use Rattle.std.proofs.Common.{take}
use Rattle.disk_face.specs.View.{files}
use Rattle.disk_face.specs.Calls.{GoesOn, SameDisk}
use Rattle.wal_recovery.specs.Gathered.{GathersWal}
use Rattle.wal_recovery.specs.Answers.{NoFaultRose}
use Rattle.wal_recovery.specs.Asking.{ReadsOnly}
use Rattle.wal_recovery.proofs.merging.read_wal.Given as goal

abbrev pub invariant-loop-segment : goal.invariant-loop-segment
invariant-loop-segment g l = record {
  goes : GoesOn (g.D.Disk.view l.initial.disk) (g.D.Disk.view l.disk);
  asks : ReadsOnly (take l.segment-index l.segment-items) (g.D.Disk.view l.initial.disk) (g.D.Disk.view l.disk);
  same : SameDisk (g.D.Disk.view l.initial.disk) (g.D.Disk.view l.disk);
  calm : NoFaultRose (g.D.Disk.view l.initial.disk) (g.D.Disk.view l.disk);
  gathered : GathersWal g.D.Disk.tells l.mode (files (g.D.Disk.view l.initial.disk)) (take l.segment-index l.segment-items) l.initial.reports l.reports l.row;
}
