use Rattle.std.proofs.Common.{◌≡◌, ℕ, [], ◌∷◌, ◌++◌, List, Err, IsTrue, sym, subst, ap, ◌∙◌, rules}
use Rattle.std.specs.Prelude.{IfErr, Result}
use Rattle.batch_repr.specs.declared.batch.Batch.{Batch}
use Rattle.batch_repr.proofs.Laws.{ok_of}
use Rattle.disk_face.specs.View.{files}
use Rattle.wal_recovery.specs.declared.fault.RecoverFault.{RecoverFault}
use Rattle.wal_recovery.specs.Recovering.{taking_numbers}
use Rattle.wal_recovery.specs.Answers.{DiskMemoryOr}
use Rattle.wal_recovery.specs.Rows.{place_listed, bytes_at}
use Rattle.wal_recovery.specs.Gathered.{IsAsListed, IsReportOf, IsBadIn}
use Rattle.wal_recovery.proofs.Spell.{counted_numbered}
use Rattle.wal_recovery.proofs.WithinLimits.{spelled_within}
use Rattle.wal_recovery.proofs.merging.read_segment.Goals as goal

pub returns-in_err-report-clause-bad : goal.returns-in_err-report-clause-bad
returns-in_err-report-clause-bad g c =
    let is : c.from_residual-in_err-report.result ≡ Err c.in_err-report.field-0.0 = search rules in
    subst (λ (r : Result (Unit {0}) RecoverFault). IfErr r (λ fault. IsTrue g.D.Disk.tells → IsAsListed (files (g.D.Disk.view c.args.disk.now)) c.args.segment
    → DiskMemoryOr (IsBadIn c.args.mode c.args.segment (bytes_at (files (g.D.Disk.view c.args.disk.now)) (place_listed c.args.segment))) fault)) (sym is)
    (λ told listed. subst (λ (bytes : List ℕ). DiskMemoryOr (IsBadIn c.args.mode c.args.segment bytes) c.in_err-report.field-0.0) (c.in_ok-bytes.ensures.bytes told listed) c.in_err-report.ensures.bad)

pub returns-clause-added : goal.returns-clause-added
returns-clause-added g c =
    let reports : c.push.new.self ≡ c.args.reports.now ++ c.in_ok-report.report ∷ [] = ok_of c.push.result _ (sym c.if-is_err.ensures.value) c.push.ensures.ok in
    let pushed : c.push-2.new.self ≡ c.args.row.now ++ record { index = c.args.index; batches = c.in_ok-batches.batches } ∷ [] = ok_of c.push-2.result _ (sym c.if-is_err-2.ensures.value) c.push-2.ensures.ok in
    let copies : c.in_ok-batches.batches ≡ taking_numbers c.in_ok-report.report.batches = c.in_ok-batches.ensures ∙ ap taking_numbers c.as_slice.ensures in
    record {
      report = c.in_ok-report.report;
      reports = reports;
      rows = pushed ∙ ap (λ (b : List Batch). c.args.row.now ++ record { index = c.args.index; batches = b } ∷ []) copies;
      numbered = counted_numbered c.in_ok-report.ensures.report.read.records c.in_ok-report.report.batches c.in_ok-report.ensures.report.batches;
      within = spelled_within c.in_ok-report.ensures.report.read.records c.in_ok-report.report.batches c.in_ok-report.ensures.report.batches;
      holds = λ told listed. subst (λ (bytes : List ℕ). IsReportOf c.args.mode c.args.segment bytes c.in_ok-report.report) (c.in_ok-bytes.ensures.bytes told listed) c.in_ok-report.ensures.report;
    }
