-- The WALs gone through so far are merged and reported on.
use Rattle.std.proofs.Common.{◌≡◌, ◌≤◌, IsTrue, take}
use Rattle.batch_repr.specs.declared.limits.TheConstants.{NUMBER_MAX}
use Rattle.batch_repr.specs.Batches.{end_after, IsContiguous}
use Rattle.disk_face.specs.View.{Dirs, files}
use Rattle.disk_face.specs.Calls.{GoesOn, SameDisk}
use Rattle.wal_recovery.specs.Base.{AreWithinLimits}
use Rattle.wal_recovery.specs.Recovering.{WalsMerge}
use Rattle.wal_recovery.specs.Reports.{ReportOnAll}
use Rattle.wal_recovery.specs.Rows.{wals_in}
use Rattle.wal_recovery.specs.Gathered.{AreListedWals}
use Rattle.wal_recovery.specs.Answers.{NoFaultRose}
use Rattle.wal_recovery.specs.Asking.{ReadsOnly, found_in}
use Rattle.wal_recovery.proofs.merging.merge_strict.Given as goal

abbrev pub invariant-loop-wal : goal.invariant-loop-wal
invariant-loop-wal g l = record {
  goes : GoesOn (g.D.Disk.view l.initial.disk) (g.D.Disk.view l.disk);
  asks : ReadsOnly (found_in (take l.wal-index l.fn.wals)) (g.D.Disk.view l.initial.disk) (g.D.Disk.view l.disk);
  same : SameDisk (g.D.Disk.view l.initial.disk) (g.D.Disk.view l.disk);
  calm : NoFaultRose (g.D.Disk.view l.initial.disk) (g.D.Disk.view l.disk);
  next : l.next ≡ end_after l.fn.first l.batches;
  contiguous : IsContiguous l.fn.first l.batches;
  limits : AreWithinLimits l.batches;
  within : l.next ≤ NUMBER_MAX;
  merged : IsTrue g.D.Disk.tells → (dirs : Dirs) → AreListedWals dirs (files (g.D.Disk.view l.initial.disk)) l.fn.wals
      → WalsMerge l.fn.first (wals_in (files (g.D.Disk.view l.initial.disk)) (take l.wal-index l.fn.wals)) l.batches;
  reports : IsTrue g.D.Disk.tells → (dirs : Dirs) → AreListedWals dirs (files (g.D.Disk.view l.initial.disk)) l.fn.wals
      → ReportOnAll (wals_in (files (g.D.Disk.view l.initial.disk)) (take l.wal-index l.fn.wals)) l.reports;
}
