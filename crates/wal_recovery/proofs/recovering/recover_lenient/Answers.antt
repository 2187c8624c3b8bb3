-- The WALs are those of the row, so what was merged of them as one row is what the directories recover to.
use Rattle.std.proofs.Common.{◌≡◌, List, Result, Err, IsTrue, sym, subst, rules}
use Rattle.std.specs.Prelude.{IfErr}
use Rattle.disk_face.specs.View.{Files, files}
use Rattle.disk_face.specs.Image.{dirs_as_read}
use Rattle.wal_recovery.specs.declared.fault.RecoverFault.{RecoverFault}
use Rattle.wal_recovery.specs.declared.reports.Mode.TheVariants.{Lenient}
use Rattle.wal_recovery.specs.declared.reports.Recovered.{Recovered}
use Rattle.wal_recovery.specs.Answers.{IsRefusedByFrom, DiskMemoryOr}
use Rattle.wal_recovery.specs.Listing.{from_wal}
use Rattle.wal_recovery.specs.Rows.{wals_in}
use Rattle.wal_recovery.specs.Gathered.{AreListedWals}
use Rattle.wal_recovery.proofs.ByWal.{wals_by_number}
use Rattle.wal_recovery.proofs.WalsListed.{wals_own, wals_listed}
use Rattle.wal_recovery.specs.declared.listing.Found.{Found}
use Rattle.wal_recovery.specs.Asking.{ReadsOnly}
use Rattle.wal_recovery.proofs.ReadsOnly.{found_of}
use Rattle.wal_recovery.proofs.recovering.recover_lenient.Goals as goal

pub merge_all-requires-clause-order : goal.merge_all-requires-clause-order
merge_all-requires-clause-order g c =
    wals_by_number (files (g.D.Disk.view c.args.disk.now)) c.in_ok-wals.wals c.args.segments.now c.in_ok-wals.ensures c.requires.ascends

pub merge_all-requires-clause-own : goal.merge_all-requires-clause-own
merge_all-requires-clause-own g c = wals_own c.in_ok-wals.wals c.args.segments.now c.in_ok-wals.ensures

pub returns-in_err-merged-clause-refused : goal.returns-in_err-merged-clause-refused
returns-in_err-merged-clause-refused g c =
    let now : Files = files (g.D.Disk.view c.args.disk.now) in
    let fault = c.in_err-merged.field-0.0 in
    let is : c.from_residual-in_err-merged.result ≡ Err fault = search rules in
    subst (λ (r : Result Recovered RecoverFault). IfErr r (λ fault. IsTrue g.D.Disk.tells
    → DiskMemoryOr (IsRefusedByFrom Lenient c.args.start.number c.args.start.base (from_wal c.args.start.wal (dirs_as_read now))) fault)) (sym is)
    (λ told. c.in_err-merged.ensures.refused told (from_wal c.args.start.wal (dirs_as_read now)) (wals_listed now c.args.start.wal c.in_ok-wals.wals c.args.segments.now c.in_ok-wals.ensures
    c.requires.ascends (c.requires.listed told)))

pub returns-clause-recovered : goal.returns-clause-recovered
returns-clause-recovered g c = λ told.
    let now : Files = files (g.D.Disk.view c.args.disk.now) in
    c.in_ok-merged.ensures.merged told (from_wal c.args.start.wal (dirs_as_read now)) (wals_listed now c.args.start.wal c.in_ok-wals.wals c.args.segments.now c.in_ok-wals.ensures c.requires.ascends (c.requires.listed told))

pub returns-clause-reports : goal.returns-clause-reports
returns-clause-reports g c = λ told.
    let now : Files = files (g.D.Disk.view c.args.disk.now) in
    let listed : AreListedWals (from_wal c.args.start.wal (dirs_as_read now)) now c.in_ok-wals.wals = wals_listed now c.args.start.wal c.in_ok-wals.wals c.args.segments.now c.in_ok-wals.ensures
    c.requires.ascends (c.requires.listed told) in
    record { wals = wals_in now c.in_ok-wals.wals; listed = listed.listed; reported = c.in_ok-merged.ensures.reports told (from_wal c.args.start.wal (dirs_as_read now)) listed }

pub returns-in_err-merged-clause-asks : goal.returns-in_err-merged-clause-asks
returns-in_err-merged-clause-asks g c =
    subst (λ (r : List Found). ReadsOnly r (g.D.Disk.view c.args.disk.now) (g.D.Disk.view c.merge_all.new.disk))
    (found_of c.in_ok-wals.wals c.args.segments.now c.in_ok-wals.ensures) c.in_err-merged.ensures.asks

pub returns-clause-asks : goal.returns-clause-asks
returns-clause-asks g c =
    subst (λ (r : List Found). ReadsOnly r (g.D.Disk.view c.args.disk.now) (g.D.Disk.view c.merge_all.new.disk))
    (found_of c.in_ok-wals.wals c.args.segments.now c.in_ok-wals.ensures) c.in_ok-merged.ensures.asks
