-- A WAL whose row goes on with the merge is merged after those before it, and a bad record of it or a refusal of its row is its refusal there.
use Rattle.std.proofs.Common.{◌≡◌, ◌++◌, Err, IsTrue, sym, subst, rules}
use Rattle.std.specs.Prelude.{IfErr, Result, List}
use Rattle.batch_repr.specs.declared.batch.Batch.{Batch}
use Rattle.disk_face.specs.View.{files}
use Rattle.wal_recovery.specs.declared.fault.RecoverFault.{RecoverFault}
use Rattle.wal_recovery.specs.declared.reports.Mode.TheVariants.{Lenient}
use Rattle.wal_recovery.specs.Answers.{DiskMemoryOr}
use Rattle.wal_recovery.specs.Rows.{wal_in}
use Rattle.wal_recovery.specs.Gathered.{AreAsListed}
use Rattle.wal_recovery.specs.OneWal.{IsLenientlyRefusedWal}
use Rattle.wal_recovery.proofs.OneWal.{wal_reports}
use Rattle.wal_recovery.proofs.AreReportsMerged.{as_row, reports_merged_of, reports_more, row_refused_behind, read_refused_behind}
use Rattle.wal_recovery.proofs.merging.add_wal.Goals as goal

pub returns-in_err-row-clause-refused : goal.returns-in_err-row-clause-refused
returns-in_err-row-clause-refused g c = λ before m.
    let at = files (g.D.Disk.view c.args.disk.now) in
    let fault = c.in_err-row.field-0.0 in
    let is : c.from_residual.result ≡ Err fault = search rules in
    subst (λ (r : Result (List Batch) RecoverFault). IfErr r (λ fault. IsTrue g.D.Disk.tells → AreAsListed at c.args.wal.now.segments.items
    → DiskMemoryOr (IsLenientlyRefusedWal before (wal_in at c.args.wal.now)) fault)) (sym is)
    (λ told listed. read_refused_behind g.D.Disk.tells at c.args.wal.now c.requires.own before fault (c.in_err-row.ensures.bad told listed))

pub returns-in-Ok-clause-merged : goal.returns-in-Ok-clause-merged
returns-in-Ok-clause-merged g c = λ front m.
    let old = c.args.reports.now in
    reports_more g.D.Disk.tells (files (g.D.Disk.view c.args.disk.now)) front c.args.wal.now old c.read_wal.new.reports c.in_ok-row.row
    c.args.so_far c.in-Ok.more c.in_ok-row.ensures.gathered m
    (c.in-Ok.ensures.found (front ++ as_row old) (reports_merged_of front old c.args.so_far m))

pub returns-in-Ok-clause-reports : goal.returns-in-Ok-clause-reports
returns-in-Ok-clause-reports g c =
    wal_reports g.D.Disk.tells (files (g.D.Disk.view c.args.disk.now)) c.args.wal.now c.requires.own Lenient c.args.reports.now
    c.read_wal.new.reports c.in_ok-row.ensures.gathered.added

pub returns-in-Err-clause-refused : goal.returns-in-Err-clause-refused
returns-in-Err-clause-refused g c = λ before m told listed.
    let at = files (g.D.Disk.view c.args.disk.now) in
    subst (DiskMemoryOr (IsLenientlyRefusedWal before (wal_in at c.args.wal.now))) (sym c.refusal.ensures)
    (row_refused_behind g.D.Disk.tells at c.args.wal.now c.requires.own before c.args.reports.now c.read_wal.new.reports c.in_ok-row.row
    c.in-Err.fault c.in_ok-row.ensures.gathered (c.in-Err.ensures.refused before m) told listed)
