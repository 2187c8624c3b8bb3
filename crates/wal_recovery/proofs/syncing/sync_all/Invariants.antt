use Rattle.std.proofs.Common.{◌≡◌, [], All, IsTrue, take}
use Rattle.disk_face.specs.View.{files, NothingInFlight, AtEachMoment}
use Rattle.disk_face.specs.Calls.{GoesOn, SameDisk}
use Rattle.wal_recovery.specs.declared.listing.Found.{Found}
use Rattle.wal_recovery.specs.Rows.{place_listed}
use Rattle.wal_recovery.specs.Resting.{IsSynced, OnlySynced}
use Rattle.wal_recovery.specs.Answers.{NoFaultRose}
use Rattle.wal_recovery.specs.Asking.{ReadsOnly}
use Rattle.wal_recovery.proofs.syncing.sync_all.Given as goal

abbrev pub invariant-loop-segment : goal.invariant-loop-segment
invariant-loop-segment g l = record {
  goes : GoesOn (g.D.Disk.view l.initial.disk) (g.D.Disk.view l.disk);
  asks : ReadsOnly [] (g.D.Disk.view l.initial.disk) (g.D.Disk.view l.disk);
  none : l.segments ≡ [] → SameDisk (g.D.Disk.view l.initial.disk) (g.D.Disk.view l.disk);
  idle : NothingInFlight (g.D.Disk.view l.disk);
  calm : NoFaultRose (g.D.Disk.view l.initial.disk) (g.D.Disk.view l.disk);
  moments : IsTrue g.D.Disk.tells → AtEachMoment ((g.D.Disk.view l.initial.disk).clock) (g.D.Disk.view l.disk)
      (OnlySynced (files (g.D.Disk.view l.initial.disk)));
  synced : IsTrue g.D.Disk.tells → All (λ (f : Found). IsSynced (files (g.D.Disk.view l.disk) (place_listed f))) (take l.segment-index l.segments);
}
