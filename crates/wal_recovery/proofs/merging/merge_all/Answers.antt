-- Each WAL goes on with the merge of those before it, so those up to it are merged as one row, and what refuses it refuses the directories.
use Rattle.std.proofs.Common.{◌≡◌, ◌++◌, map, [], Err, IsTrue, All, length, sym, subst, ap, rules, arith}
use Rattle.std.specs.Prelude.{IfErr, Result, List}
use Rattle.std.proofs.lemmas.List.{take_all}
use Rattle.batch_repr.specs.Batches.{end_after}
use Rattle.segment_merge.specs.Rows.{IsNumbered, batches_in}
use Rattle.segment_merge.specs.Lenient.{MergedLenient, AreMergedOf}
use Rattle.disk_face.specs.View.{Dirs, Files, files}
use Rattle.disk_face.proofs.Laws.{goes_on_from, goes_on_further, same_from, same_further, same_files}
use Rattle.wal_recovery.specs.declared.fault.RecoverFault.{RecoverFault}
use Rattle.wal_recovery.specs.declared.merging.Merged.{Merged}
use Rattle.wal_recovery.specs.declared.wals.FoundWal.{FoundWal}
use Rattle.wal_recovery.specs.Listing.{AreByIndex}
use Rattle.wal_recovery.specs.Refused.{IsLenientlyRefusedAfter}
use Rattle.wal_recovery.specs.Base.{front_of}
use Rattle.wal_recovery.specs.Reports.{ReportOnAll}
use Rattle.wal_recovery.specs.Answers.{DiskMemoryOr}
use Rattle.wal_recovery.specs.Rows.{stored_in, wal_in, wals_in}
use Rattle.wal_recovery.specs.Gathered.{AreAsListed, AreListedWals, counted_in}
use Rattle.wal_recovery.specs.OneWal.{AddsReports, IsLenientlyRefusedWal}
use Rattle.wal_recovery.proofs.ReportOnAll.{end_within}
use Rattle.wal_recovery.proofs.AtWal.{StandsAt, stands_at, reports_none, order_at, reports_at}
use Rattle.wal_recovery.proofs.AreReportsMerged as leniently
use Rattle.wal_recovery.proofs.Base.{base_numbered, front_merged, front_numbered}
use Rattle.wal_recovery.proofs.BeginsWith.{front_begins}
use Rattle.wal_recovery.proofs.AreReportsMerged.{reports_hold, reports_numbered, refused_behind}
use Rattle.wal_recovery.specs.Asking.{ReadsOnly, found_in}
use Rattle.wal_recovery.proofs.ReadsOnly.{reads_none, reads_wal, reads_wal_within}
use Rattle.wal_recovery.proofs.Calm.{calm_from, calm_further}
use Rattle.wal_recovery.proofs.merging.merge_all.Goals as goal

pub loop-wal-init : goal.loop-wal-init
loop-wal-init g c =
    let v = g.D.Disk.view c.args.disk.now in
    record {
      goes = goes_on_from v;
      same = same_from v;
      calm = calm_from v;
      asks = reads_none [] v;
      merged = leniently.reports_none (front_of c.args.base) c.args.reports.now c.in_ok-begun.begun c.requires.none
          (subst (AreMergedOf (front_of c.args.base)) (sym c.in_ok-begun.ensures.merged) (front_merged c.args.first c.args.base c.requires.base))
          (front_numbered c.args.base (base_numbered c.args.first c.args.base c.requires.number c.requires.base));
      reports = λ told dirs listed. subst (ReportOnAll []) (sym c.requires.none) (reports_none (files v) c.args.wals.now);
    }

pub add_wal-requires-clause-order : goal.add_wal-requires-clause-order
add_wal-requires-clause-order g c =
    let first = g.D.Disk.view c.args.disk.now in
    let mid = g.D.Disk.view c.loop-wal.disk in
    let now : files mid ≡ files first = same_files first mid c.loop-wal.invariant.same in
    let at : StandsAt c.args.wals.now c.loop-wal.wal-index c.wal-item.result = stands_at c.as_slice-wal-items.ensures c.loop-wal-test.true c.wal-item.is in
    subst (λ (fs : Files). AreByIndex 0 (map (stored_in fs) c.wal-item.result.segments.items)) (sym now) (order_at (files first) c.args.wals.now c.loop-wal.wal-index c.wal-item.result at c.requires.order)

pub loop-wal-preserved : goal.loop-wal-preserved
loop-wal-preserved g c =
    let first = g.D.Disk.view c.args.disk.now in
    let mid = g.D.Disk.view c.loop-wal.disk in
    let new = g.D.Disk.view c.add_wal.new.disk in
    let now : files mid ≡ files first = same_files first mid c.loop-wal.invariant.same in
    let at : StandsAt c.args.wals.now c.loop-wal.wal-index c.wal-item.result = stands_at c.as_slice-wal-items.ensures c.loop-wal-test.true c.wal-item.is in
    record {
      goes = goes_on_further first mid new c.loop-wal.invariant.goes c.in_ok-so_far.ensures.goes_on;
      same = same_further first mid new c.loop-wal.invariant.same c.in_ok-so_far.ensures.same;
      calm = calm_further first mid new c.loop-wal.invariant.calm c.in_ok-so_far.ensures.calm;
      asks = reads_wal c.args.wals.now c.loop-wal.wal-index c.wal-item.result first mid new at c.loop-wal.invariant.asks c.in_ok-so_far.ensures.asks;
      merged = c.in_ok-so_far.ensures.merged (front_of c.args.base) c.loop-wal.invariant.merged;
      reports = λ told dirs listed. reports_at (files first) c.args.wals.now c.loop-wal.wal-index c.wal-item.result at dirs c.loop-wal.reports c.add_wal.new.reports
          (c.loop-wal.invariant.reports told dirs listed)
          (subst (λ (fs : Files). AreAsListed fs c.wal-item.result.segments.items → AddsReports (wal_in fs c.wal-item.result) c.loop-wal.reports c.add_wal.new.reports) now (c.in_ok-so_far.ensures.reports told)) listed;
    }

pub returns-in_err-so_far-clause-refused : goal.returns-in_err-so_far-clause-refused
returns-in_err-so_far-clause-refused g c =
    let first = g.D.Disk.view c.args.disk.now in
    let mid = g.D.Disk.view c.loop-wal.disk in
    let now : files mid ≡ files first = same_files first mid c.loop-wal.invariant.same in
    let at : StandsAt c.args.wals.now c.loop-wal.wal-index c.wal-item.result = stands_at c.as_slice-wal-items.ensures c.loop-wal-test.true c.wal-item.is in
    let fault = c.in_err-so_far.field-0.0 in
    let is : c.from_residual-in_err-so_far.result ≡ Err fault = search rules in
    subst (λ (r : Result Merged RecoverFault). IfErr r (λ fault. IsTrue g.D.Disk.tells → (dirs : Dirs) → AreListedWals dirs (files first) c.args.wals.now
    → DiskMemoryOr (IsLenientlyRefusedAfter (front_of c.args.base) dirs) fault)) (sym is)
    (λ told dirs listed. refused_behind (files first) c.args.wals.now c.loop-wal.wal-index c.wal-item.result at (front_of c.args.base) dirs
    c.loop-wal.reports c.loop-wal.so_far fault (c.loop-wal.invariant.reports told dirs listed) c.loop-wal.invariant.merged
    (λ before m. subst (λ (fs : Files). AreAsListed fs c.wal-item.result.segments.items → DiskMemoryOr (IsLenientlyRefusedWal before (wal_in fs c.wal-item.result)) fault) now (c.in_err-so_far.ensures.refused before m told)) listed)

pub next_after-next-requires : goal.next_after-next-requires
next_after-next-requires g c = subst (All IsNumbered) (sym c.as_slice.ensures)
    (subst (All IsNumbered) (sym c.into_batches-batches.ensures) (reports_numbered (front_of c.args.base) c.loop-wal.reports c.loop-wal.so_far c.loop-wal.invariant.merged))

pub returns-clause-within : goal.returns-clause-within
returns-clause-within g c =
    let numbered : All IsNumbered c.into_batches-batches.result = subst (All IsNumbered) (sym c.into_batches-batches.ensures)
    (reports_numbered (front_of c.args.base) c.loop-wal.reports c.loop-wal.so_far c.loop-wal.invariant.merged) in
    let low = end_within c.args.first c.into_batches-batches.result c.requires.number numbered in
    omega (arith, low, c.next_after-next.ensures, ap (end_after c.args.first) c.as_slice.ensures)

pub returns-clause-begins : goal.returns-clause-begins
returns-clause-begins g c = front_begins c.args.first c.args.base (counted_in c.loop-wal.reports) c.into_batches-batches.result c.requires.base
    (subst (MergedLenient (batches_in (front_of c.args.base) ++ counted_in c.loop-wal.reports)) (sym c.into_batches-batches.ensures)
    c.loop-wal.invariant.merged.merges)

pub returns-clause-merged : goal.returns-clause-merged
returns-clause-merged g c =
    let at = files (g.D.Disk.view c.args.disk.now) in
    λ told dirs listed.
    let reported : ReportOnAll (wals_in at c.args.wals.now) c.loop-wal.reports =
    subst (λ (l : List FoundWal). ReportOnAll (wals_in at l) c.loop-wal.reports) (take_all c.loop-wal.wal-index c.args.wals.now (omega (arith, c.loop-wal-test.false, ap (λ (l : List FoundWal). length l) c.as_slice-wal-items.ensures))) (c.loop-wal.invariant.reports told dirs listed) in
    record {
      wals = wals_in at c.args.wals.now;
      listed = listed.listed;
      rows = counted_in c.loop-wal.reports;
      hold = reports_hold (wals_in at c.args.wals.now) c.loop-wal.reports reported;
      merges = subst (MergedLenient (batches_in (front_of c.args.base) ++ counted_in c.loop-wal.reports)) (sym c.into_batches-batches.ensures) c.loop-wal.invariant.merged.merges;
    }

pub returns-in_err-so_far-clause-asks : goal.returns-in_err-so_far-clause-asks
returns-in_err-so_far-clause-asks g c =
    let first = g.D.Disk.view c.args.disk.now in
    let mid = g.D.Disk.view c.loop-wal.disk in
    let at : StandsAt c.args.wals.now c.loop-wal.wal-index c.wal-item.result = stands_at c.as_slice-wal-items.ensures c.loop-wal-test.true c.wal-item.is in
    reads_wal_within c.args.wals.now c.loop-wal.wal-index c.wal-item.result first mid (g.D.Disk.view c.add_wal.new.disk) at c.loop-wal.invariant.asks c.in_err-so_far.ensures.asks

pub returns-clause-asks : goal.returns-clause-asks
returns-clause-asks g c =
    subst (λ (l : List FoundWal). ReadsOnly (found_in l) (g.D.Disk.view c.args.disk.now) (g.D.Disk.view c.loop-wal.disk))
    (take_all c.loop-wal.wal-index c.args.wals.now (omega (arith, c.loop-wal-test.false, ap (λ (l : List FoundWal). length l) c.as_slice-wal-items.ensures))) c.loop-wal.invariant.asks

pub returns-clause-reports : goal.returns-clause-reports
returns-clause-reports g c =
    let at = files (g.D.Disk.view c.args.disk.now) in
    λ told dirs listed.
    subst (λ (l : List FoundWal). ReportOnAll (wals_in at l) c.loop-wal.reports)
    (take_all c.loop-wal.wal-index c.args.wals.now (omega (arith, c.loop-wal-test.false, ap (λ (l : List FoundWal). length l) c.as_slice-wal-items.ensures)))
    (c.loop-wal.invariant.reports told dirs listed)
