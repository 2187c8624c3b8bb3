-- The WALs gone through so far are reported on, and merged with the base as one row.
use Rattle.std.proofs.Common.{IsTrue, take}
use Rattle.disk_face.specs.View.{Dirs, files}
use Rattle.disk_face.specs.Calls.{GoesOn, SameDisk}
use Rattle.wal_recovery.specs.Base.{front_of}
use Rattle.wal_recovery.specs.Reports.{ReportOnAll}
use Rattle.wal_recovery.specs.Rows.{wals_in}
use Rattle.wal_recovery.specs.Gathered.{AreReportsMerged, AreListedWals}
use Rattle.wal_recovery.specs.Answers.{NoFaultRose}
use Rattle.wal_recovery.specs.Asking.{ReadsOnly, found_in}
use Rattle.wal_recovery.proofs.merging.merge_all.Given as goal

abbrev pub invariant-loop-wal : goal.invariant-loop-wal
invariant-loop-wal g l = record {
  goes : GoesOn (g.D.Disk.view l.initial.disk) (g.D.Disk.view l.disk);
  asks : ReadsOnly (found_in (take l.wal-index l.fn.wals)) (g.D.Disk.view l.initial.disk) (g.D.Disk.view l.disk);
  same : SameDisk (g.D.Disk.view l.initial.disk) (g.D.Disk.view l.disk);
  calm : NoFaultRose (g.D.Disk.view l.initial.disk) (g.D.Disk.view l.disk);
  merged : AreReportsMerged (front_of l.fn.base) l.reports l.so_far;
  reports : IsTrue g.D.Disk.tells → (dirs : Dirs) → AreListedWals dirs (files (g.D.Disk.view l.initial.disk)) l.fn.wals
      → ReportOnAll (wals_in (files (g.D.Disk.view l.initial.disk)) (take l.wal-index l.fn.wals)) l.reports;
}
