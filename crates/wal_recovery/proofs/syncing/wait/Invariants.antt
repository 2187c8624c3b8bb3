use Rattle.std.proofs.Common.{[]}
use Rattle.disk_face.specs.Calls.{GoesOn, SameDisk}
use Rattle.wal_recovery.specs.Answers.{NoFaultRose}
use Rattle.wal_recovery.specs.Asking.{ReadsOnly}
use Rattle.wal_recovery.proofs.syncing.wait.Given as goal

abbrev pub invariant-loop : goal.invariant-loop
invariant-loop g l = record {
  goes : GoesOn (g.D.Disk.view l.initial.disk) (g.D.Disk.view l.disk);
  asks : ReadsOnly [] (g.D.Disk.view l.initial.disk) (g.D.Disk.view l.disk);
  same : SameDisk (g.D.Disk.view l.initial.disk) (g.D.Disk.view l.disk);
  calm : NoFaultRose (g.D.Disk.view l.initial.disk) (g.D.Disk.view l.disk);
}

abbrev pub decreases-loop : goal.decreases-loop
decreases-loop g l = (g.D.Disk.view l.disk).polls_left l.id.side
