-- A WAL whose row is merged is merged, and a bad record of it or a refusal of its row is its refusal.
use Rattle.std.proofs.Common.{◌≡◌, List, Err, IsTrue, sym, subst, rules}
use Rattle.std.specs.Prelude.{IfErr, Result}
use Rattle.batch_repr.specs.declared.batch.Batch.{Batch}
use Rattle.disk_face.specs.View.{files}
use Rattle.wal_recovery.specs.declared.fault.RecoverFault.{RecoverFault}
use Rattle.wal_recovery.specs.declared.reports.Mode.TheVariants.{Strict}
use Rattle.wal_recovery.specs.Answers.{FaultRose, DiskMemoryOr}
use Rattle.wal_recovery.specs.Rows.{wal_in}
use Rattle.wal_recovery.specs.Gathered.{AreAsListed}
use Rattle.wal_recovery.specs.OneWal.{IsRefusedWal}
use Rattle.wal_recovery.proofs.ReportOnAll.{merged_numbered}
use Rattle.wal_recovery.proofs.WithinLimits.{merged_within}
use Rattle.wal_recovery.proofs.OneWal.{named_rose, wal_reports, row_merged, row_refused, read_refused}
use Rattle.wal_recovery.proofs.merging.merge_wal.Goals as goal

pub returns-in_err-row-clause-refused : goal.returns-in_err-row-clause-refused
returns-in_err-row-clause-refused g c =
    let at = files (g.D.Disk.view c.args.disk.now) in
    let fault = c.in_err-row.field-0.0 in
    let is : c.from_residual.result ≡ Err fault = search rules in
    subst (λ (r : Result (List Batch) RecoverFault). IfErr r (λ fault. IsTrue g.D.Disk.tells → AreAsListed at c.args.wal.now.segments.items → DiskMemoryOr (IsRefusedWal c.args.next (wal_in at c.args.wal.now)) fault)) (sym is)
    (λ told listed. read_refused g.D.Disk.tells at c.args.wal.now c.requires.own c.args.next fault (c.in_err-row.ensures.bad told listed))

pub returns-in-Ok-clause-numbered : goal.returns-in-Ok-clause-numbered
returns-in-Ok-clause-numbered g c = merged_numbered c.args.next c.in_ok-row.row c.in-Ok.own c.in_ok-row.ensures.row c.in-Ok.ensures.found

pub returns-in-Ok-clause-limits : goal.returns-in-Ok-clause-limits
returns-in-Ok-clause-limits g c =
    merged_within g.D.Disk.tells Strict (files (g.D.Disk.view c.args.disk.now)) c.args.wal.now.segments.items c.args.reports.now
    c.read_wal.new.reports c.in_ok-row.row c.args.next c.in-Ok.own c.in_ok-row.ensures.gathered c.in-Ok.ensures.found

pub returns-in-Ok-clause-merged : goal.returns-in-Ok-clause-merged
returns-in-Ok-clause-merged g c =
    row_merged g.D.Disk.tells (files (g.D.Disk.view c.args.disk.now)) c.args.wal.now c.requires.own c.args.reports.now c.read_wal.new.reports c.in_ok-row.row c.args.next c.in-Ok.own c.in_ok-row.ensures.gathered c.in-Ok.ensures.found

pub returns-in-Ok-clause-reports : goal.returns-in-Ok-clause-reports
returns-in-Ok-clause-reports g c =
    wal_reports g.D.Disk.tells (files (g.D.Disk.view c.args.disk.now)) c.args.wal.now c.requires.own Strict c.args.reports.now c.read_wal.new.reports c.in_ok-row.ensures.gathered.added

pub returns-in-Err-clause-rose : goal.returns-in-Err-clause-rose
returns-in-Err-clause-rose g c =
    let old = g.D.Disk.view c.args.disk.now in
    let new = g.D.Disk.view c.read_wal.new.disk in
    subst (FaultRose old new) (sym c.refusal.ensures) (named_rose old new c.args.wal.now.number c.in-Err.fault)

pub returns-in-Err-clause-refused : goal.returns-in-Err-clause-refused
returns-in-Err-clause-refused g c =
    let at = files (g.D.Disk.view c.args.disk.now) in
    λ told listed. subst (DiskMemoryOr (IsRefusedWal c.args.next (wal_in at c.args.wal.now))) (sym c.refusal.ensures)
    (row_refused g.D.Disk.tells at c.args.wal.now c.requires.own c.args.reports.now c.read_wal.new.reports c.in_ok-row.row c.args.next c.in-Err.fault c.in_ok-row.ensures.gathered c.in-Err.ensures.refused told listed)
