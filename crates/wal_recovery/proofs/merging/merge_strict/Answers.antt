-- Each WAL is merged from the end of those before it, so those up to it merge, and what refuses it refuses the directories.
use Rattle.batch_repr.proofs.Laws.{contiguous_append, end_append}
use Rattle.std.proofs.Common.{◌≡◌, ℕ, map, List, length, take_all, ◌++◌, [], Err, IsTrue, All, sym, subst, ap, ◌∙◌, rules, arith}
use Rattle.std.specs.Prelude.{IfErr, Result}
use Rattle.std.proofs.lemmas.List.Elements.{All-nil, All-append}
use Rattle.batch_repr.specs.Batches.{end_after, IsContiguous}
use Rattle.segment_merge.specs.Rows.{IsNumbered}
use Rattle.disk_face.specs.View.{Dirs, Files, files}
use Rattle.disk_face.proofs.Laws.{goes_on_from, goes_on_further, same_from, same_further, same_files}
use Rattle.wal_recovery.specs.declared.fault.RecoverFault.{RecoverFault}
use Rattle.wal_recovery.specs.declared.merging.Merged.{Merged}
use Rattle.wal_recovery.specs.declared.wals.FoundWal.{FoundWal}
use Rattle.wal_recovery.specs.Listing.{AreByIndex}
use Rattle.wal_recovery.specs.Base.{IsBatchWithin, AreWithinLimits}
use Rattle.wal_recovery.specs.Recovering.{WalMerges, WalsMerge}
use Rattle.wal_recovery.specs.Refused.{IsRefusedFrom}
use Rattle.wal_recovery.specs.Reports.{ReportOnAll}
use Rattle.wal_recovery.specs.Answers.{DiskMemoryOr}
use Rattle.wal_recovery.specs.Rows.{stored_in, wal_in, wals_in}
use Rattle.wal_recovery.specs.Gathered.{AreAsListed, AreListedWals, IsOwnWal}
use Rattle.wal_recovery.specs.OneWal.{AddsReports, IsRefusedWal}
use Rattle.wal_recovery.proofs.ReportOnAll.{end_within}
use Rattle.wal_recovery.proofs.AtWal.{StandsAt, stands_at, at_place, merged_none, reports_none, order_at, merged_at, reports_at, refused_at}
use Rattle.wal_recovery.specs.Asking.{ReadsOnly, found_in}
use Rattle.wal_recovery.proofs.ReadsOnly.{reads_none, reads_wal, reads_wal_within}
use Rattle.wal_recovery.proofs.Calm.{calm_from, calm_further}
use Rattle.wal_recovery.proofs.merging.merge_strict.Goals as goal

pub loop-wal-init : goal.loop-wal-init
unfolding end_after IsContiguous
loop-wal-init g c =
    let v = g.D.Disk.view c.args.disk.now in
    record {
      goes = goes_on_from v;
      same = same_from v;
      calm = calm_from v;
      asks = reads_none [] v;
      next = sym (ap (end_after c.args.first) c.new-batches.ensures);
      contiguous = subst (IsContiguous c.args.first) (sym c.new-batches.ensures) tt;
      limits = subst AreWithinLimits (sym c.new-batches.ensures) (All-nil IsBatchWithin);
      within = c.requires.number;
      merged = λ told dirs listed. subst (WalsMerge c.args.first []) (sym c.new-batches.ensures) (merged_none (files v) c.args.wals.now c.args.first);
      reports = λ told dirs listed. subst (ReportOnAll []) (sym c.requires.none) (reports_none (files v) c.args.wals.now);
    }

pub merge_wal-requires : goal.merge_wal-requires
merge_wal-requires g c =
    let first = g.D.Disk.view c.args.disk.now in
    let mid = g.D.Disk.view c.loop-wal.disk in
    let now : files mid ≡ files first = same_files first mid c.loop-wal.invariant.same in
    let at : StandsAt c.args.wals.now c.loop-wal.wal-index c.wal-item.result = stands_at c.as_slice-wal-items.ensures c.loop-wal-test.true c.wal-item.is in
    record {
      order = subst (λ (fs : Files). AreByIndex 0 (map (stored_in fs) c.wal-item.result.segments.items)) (sym now)
          (order_at (files first) c.args.wals.now c.loop-wal.wal-index c.wal-item.result at c.requires.order);
      own = at_place IsOwnWal c.args.wals.now c.loop-wal.wal-index c.wal-item.result at c.requires.own;
    }

pub next_after-next-requires : goal.next_after-next-requires
next_after-next-requires g c = subst (All IsNumbered) (sym c.as_slice.ensures) c.in_ok-own.ensures.numbered

pub loop-wal-preserved : goal.loop-wal-preserved
loop-wal-preserved g c =
    let first = g.D.Disk.view c.args.disk.now in
    let mid = g.D.Disk.view c.loop-wal.disk in
    let new = g.D.Disk.view c.merge_wal.new.disk in
    let now : files mid ≡ files first = same_files first mid c.loop-wal.invariant.same in
    let at : StandsAt c.args.wals.now c.loop-wal.wal-index c.wal-item.result = stands_at c.as_slice-wal-items.ensures c.loop-wal-test.true c.wal-item.is in
    let own = c.in_ok-own.own in
    let ends : c.next_after-next.result ≡ end_after c.loop-wal.next own = c.next_after-next.ensures ∙ ap (end_after c.loop-wal.next) c.as_slice.ensures in
    let longer : c.append.new.batches ≡ c.loop-wal.batches ++ own = c.in_ok-append.ensures.added in
    record {
      goes = goes_on_further first mid new c.loop-wal.invariant.goes c.in_ok-own.ensures.goes_on;
      same = same_further first mid new c.loop-wal.invariant.same c.in_ok-own.ensures.same;
      calm = calm_further first mid new c.loop-wal.invariant.calm c.in_ok-own.ensures.calm;
      asks = reads_wal c.args.wals.now c.loop-wal.wal-index c.wal-item.result first mid new at c.loop-wal.invariant.asks c.in_ok-own.ensures.asks;
      next = ends ∙ ap (λ (n : ℕ). end_after n own) c.loop-wal.invariant.next ∙ sym (end_append c.args.first c.loop-wal.batches own)
          ∙ ap (end_after c.args.first) (sym longer);
      contiguous = subst (IsContiguous c.args.first) (sym longer)
          (contiguous_append c.args.first c.loop-wal.batches own c.loop-wal.invariant.contiguous
          (subst (λ (n : ℕ). IsContiguous n own) c.loop-wal.invariant.next c.in_ok-own.ensures.contiguous));
      limits = subst AreWithinLimits (sym longer)
          (All-append IsBatchWithin c.loop-wal.batches own c.loop-wal.invariant.limits c.in_ok-own.ensures.limits);
      within = let low = end_within c.loop-wal.next own c.loop-wal.invariant.within c.in_ok-own.ensures.numbered in omega (arith, low, ends);
      merged = λ told dirs listed. merged_at (files first) c.args.wals.now c.loop-wal.wal-index c.wal-item.result at dirs c.args.first c.loop-wal.next
          c.loop-wal.batches own c.append.new.batches c.loop-wal.invariant.next longer
          (c.loop-wal.invariant.merged told dirs listed)
          (subst (λ (fs : Files). AreAsListed fs c.wal-item.result.segments.items
          → WalMerges c.loop-wal.next (wal_in fs c.wal-item.result) own) now (c.in_ok-own.ensures.merged told)) listed;
      reports = λ told dirs listed. reports_at (files first) c.args.wals.now c.loop-wal.wal-index c.wal-item.result at dirs c.loop-wal.reports c.merge_wal.new.reports
          (c.loop-wal.invariant.reports told dirs listed)
          (subst (λ (fs : Files). AreAsListed fs c.wal-item.result.segments.items
          → AddsReports (wal_in fs c.wal-item.result) c.loop-wal.reports c.merge_wal.new.reports) now
          (c.in_ok-own.ensures.reports told)) listed;
    }

pub returns-in_err-own-clause-refused : goal.returns-in_err-own-clause-refused
returns-in_err-own-clause-refused g c =
    let first = g.D.Disk.view c.args.disk.now in
    let mid = g.D.Disk.view c.loop-wal.disk in
    let now : files mid ≡ files first = same_files first mid c.loop-wal.invariant.same in
    let at : StandsAt c.args.wals.now c.loop-wal.wal-index c.wal-item.result = stands_at c.as_slice-wal-items.ensures c.loop-wal-test.true c.wal-item.is in
    let fault = c.in_err-own.field-0.0 in
    let is : c.from_residual.result ≡ Err fault = search rules in
    subst (λ (r : Result Merged RecoverFault). IfErr r (λ fault. IsTrue g.D.Disk.tells → (dirs : Dirs) → AreListedWals dirs (files first) c.args.wals.now
    → DiskMemoryOr (IsRefusedFrom c.args.first dirs) fault)) (sym is)
    (λ told dirs listed. refused_at (files first) c.args.wals.now c.loop-wal.wal-index c.wal-item.result at dirs c.args.first c.loop-wal.next c.loop-wal.batches
    fault c.loop-wal.invariant.next (c.loop-wal.invariant.merged told dirs listed)
    (subst (λ (fs : Files). AreAsListed fs c.wal-item.result.segments.items
    → DiskMemoryOr (IsRefusedWal c.loop-wal.next (wal_in fs c.wal-item.result)) fault) now (c.in_err-own.ensures.refused told)) listed)

pub returns-in_err-own-clause-asks : goal.returns-in_err-own-clause-asks
returns-in_err-own-clause-asks g c =
    let first = g.D.Disk.view c.args.disk.now in
    let mid = g.D.Disk.view c.loop-wal.disk in
    let at : StandsAt c.args.wals.now c.loop-wal.wal-index c.wal-item.result = stands_at c.as_slice-wal-items.ensures c.loop-wal-test.true c.wal-item.is in
    reads_wal_within c.args.wals.now c.loop-wal.wal-index c.wal-item.result first mid (g.D.Disk.view c.merge_wal.new.disk) at
    c.loop-wal.invariant.asks c.in_err-own.ensures.asks

pub returns-in_err-append-clause-asks : goal.returns-in_err-append-clause-asks
returns-in_err-append-clause-asks g c =
    let first = g.D.Disk.view c.args.disk.now in
    let mid = g.D.Disk.view c.loop-wal.disk in
    let at : StandsAt c.args.wals.now c.loop-wal.wal-index c.wal-item.result = stands_at c.as_slice-wal-items.ensures c.loop-wal-test.true c.wal-item.is in
    reads_wal_within c.args.wals.now c.loop-wal.wal-index c.wal-item.result first mid (g.D.Disk.view c.merge_wal.new.disk) at
    c.loop-wal.invariant.asks c.in_ok-own.ensures.asks

pub returns-clause-asks : goal.returns-clause-asks
returns-clause-asks g c =
    subst (λ (l : List FoundWal). ReadsOnly (found_in l) (g.D.Disk.view c.args.disk.now) (g.D.Disk.view c.loop-wal.disk))
    (take_all c.loop-wal.wal-index c.args.wals.now (omega (
      arith,
      c.loop-wal-test.false,
      ap (λ (l : List FoundWal). length l) c.as_slice-wal-items.ensures,
    ))) c.loop-wal.invariant.asks

pub returns-clause-merged : goal.returns-clause-merged
returns-clause-merged g c =
    let at = files (g.D.Disk.view c.args.disk.now) in
    λ told dirs listed.
    subst (λ (l : List FoundWal). WalsMerge c.args.first (wals_in at l) c.loop-wal.batches)
    (take_all c.loop-wal.wal-index c.args.wals.now (omega (arith, c.loop-wal-test.false, ap (λ (l : List FoundWal). length l) c.as_slice-wal-items.ensures)))
    (c.loop-wal.invariant.merged told dirs listed)

pub returns-clause-reports : goal.returns-clause-reports
returns-clause-reports g c =
    let at = files (g.D.Disk.view c.args.disk.now) in
    λ told dirs listed.
    subst (λ (l : List FoundWal). ReportOnAll (wals_in at l) c.loop-wal.reports)
    (take_all c.loop-wal.wal-index c.args.wals.now (omega (arith, c.loop-wal-test.false, ap (λ (l : List FoundWal). length l) c.as_slice-wal-items.ensures)))
    (c.loop-wal.invariant.reports told dirs listed)
