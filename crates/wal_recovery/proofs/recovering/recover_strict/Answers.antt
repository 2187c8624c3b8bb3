-- The WALs are those of the row, so what was merged of them is what the directories recover to. The syncs after it add no image.
use Rattle.std.proofs.Common.{◌≡◌, List, All, Result, Err, IsTrue, sym, subst, ap, ◌∙◌, arith, rules}
use Rattle.std.specs.Prelude.{IfErr}
use Rattle.batch_repr.specs.Batches.{end_after}
use Rattle.disk_face.specs.View.{Files, files, syncing, AtEachMoment}
use Rattle.disk_face.specs.Image.{dirs_as_read}
use Rattle.disk_face.specs.Calls.{MayStart}
use Rattle.disk_face.proofs.Laws.{same_files, same_further}
use Rattle.wal_recovery.specs.declared.fault.RecoverFault.{RecoverFault}
use Rattle.wal_recovery.specs.declared.listing.Found.{Found}
use Rattle.wal_recovery.specs.declared.reports.Mode.TheVariants.{Strict}
use Rattle.wal_recovery.specs.declared.reports.Recovered.{Recovered}
use Rattle.std.proofs.lemmas.List.Elements.{All-append}
use Rattle.wal_recovery.specs.Base.{IsBatchWithin, AreWithinLimits}
use Rattle.wal_recovery.specs.Resting.{OnlySynced}
use Rattle.wal_recovery.specs.Answers.{IsRefusedByFrom, DiskMemoryOr}
use Rattle.wal_recovery.specs.Listing.{from_wal}
use Rattle.wal_recovery.proofs.Base.{ends_behind}
use Rattle.wal_recovery.proofs.From.{row_there}
use Rattle.wal_recovery.specs.Rows.{place_listed, wals_in}
use Rattle.wal_recovery.specs.Gathered.{AreListedWals}
use Rattle.wal_recovery.proofs.ByWal.{wals_by_number}
use Rattle.wal_recovery.proofs.WalsListed.{wals_own, wals_listed}
use Rattle.wal_recovery.proofs.IsStable.{may_sync, all_stable, same_then}
use Rattle.wal_recovery.specs.Asking.{ReadsOnly}
use Rattle.wal_recovery.proofs.ReadsOnly.{found_of, reads_then_nothing}
use Rattle.wal_recovery.proofs.recovering.recover_strict.Goals as goal

pub merge_strict-requires-clause-order : goal.merge_strict-requires-clause-order
merge_strict-requires-clause-order g c =
    wals_by_number (files (g.D.Disk.view c.args.disk.now)) c.in_ok-wals.wals c.args.segments.now c.in_ok-wals.ensures c.requires.ascends

pub merge_strict-requires-clause-own : goal.merge_strict-requires-clause-own
merge_strict-requires-clause-own g c = wals_own c.in_ok-wals.wals c.args.segments.now c.in_ok-wals.ensures

pub returns-in_err-merged-clause-refused : goal.returns-in_err-merged-clause-refused
returns-in_err-merged-clause-refused g c =
    let now : Files = files (g.D.Disk.view c.args.disk.now) in
    let fault = c.in_err-merged.field-0.0 in
    let is : c.from_residual-in_err-merged.result ≡ Err fault = search rules in
    subst (λ (r : Result Recovered RecoverFault). IfErr r (λ fault. IsTrue g.D.Disk.tells
    → DiskMemoryOr (IsRefusedByFrom Strict c.args.start.number c.args.start.base (from_wal c.args.start.wal (dirs_as_read now))) fault)) (sym is)
    (λ told. c.in_err-merged.ensures.refused told (from_wal c.args.start.wal (dirs_as_read now)) (wals_listed now c.args.start.wal c.in_ok-wals.wals c.args.segments.now c.in_ok-wals.ensures
    c.requires.ascends (c.requires.listed told)))

pub sync_all-requires-clause-there : goal.sync_all-requires-clause-there
sync_all-requires-clause-there g c = λ told.
    let now = g.D.Disk.view c.args.disk.now in
    let same : files (g.D.Disk.view c.merge_strict.new.disk) ≡ files now = same_files now (g.D.Disk.view c.merge_strict.new.disk) c.in_ok-merged.ensures.same in
    subst (λ (fs : Files). All (λ (f : Found). MayStart syncing (fs (place_listed f))) c.args.segments.now) (sym same)
    (may_sync (files now) c.args.segments.now (row_there c.args.start.wal (files now) c.args.segments.now (c.requires.listed told)))

pub returns-in_err-sync_all-clause-each_moment : goal.returns-in_err-sync_all-clause-each_moment
returns-in_err-sync_all-clause-each_moment g c = λ told.
    same_then (g.D.Disk.view c.args.disk.now) (g.D.Disk.view c.merge_strict.new.disk) (g.D.Disk.view c.sync_all.new.disk) OnlySynced
    c.in_ok-merged.ensures.same (c.in_err-sync_all.ensures.each_moment told)

pub returns-clause-recovered : goal.returns-clause-recovered
returns-clause-recovered g c = λ told.
    let now : Files = files (g.D.Disk.view c.args.disk.now) in
    let listed : AreListedWals (from_wal c.args.start.wal (dirs_as_read now)) now c.in_ok-wals.wals = wals_listed now c.args.start.wal c.in_ok-wals.wals c.args.segments.now c.in_ok-wals.ensures
    c.requires.ascends (c.requires.listed told) in
    record {
      merged = c.in_ok-merged.merged.batches;
      recovers = record {
        wals = wals_in now c.in_ok-wals.wals;
        listed = listed.listed;
        merges = c.in_ok-merged.ensures.merged told (from_wal c.args.start.wal (dirs_as_read now)) listed;
      };
      behind = c.in_ok-append.ensures.added;
    }

pub returns-clause-contiguous : goal.returns-clause-contiguous
returns-clause-contiguous g c = record {
  merged = c.in_ok-merged.merged.batches;
  contiguous = c.in_ok-merged.ensures.contiguous;
  behind = c.in_ok-append.ensures.added;
}

pub returns-clause-limits : goal.returns-clause-limits
returns-clause-limits g c = λ base.
    subst AreWithinLimits (sym c.in_ok-append.ensures.added)
    (All-append IsBatchWithin c.args.start.base c.in_ok-merged.merged.batches base c.in_ok-merged.ensures.limits)

pub returns-in_err-sync_all-clause-none : goal.returns-in_err-sync_all-clause-none
returns-in_err-sync_all-clause-none g c = λ none.
    same_further (g.D.Disk.view c.args.disk.now) (g.D.Disk.view c.merge_strict.new.disk) (g.D.Disk.view c.sync_all.new.disk)
    c.in_ok-merged.ensures.same (c.in_err-sync_all.ensures.none none)

pub returns-clause-none : goal.returns-clause-none
returns-clause-none g c = λ none.
    same_further (g.D.Disk.view c.args.disk.now) (g.D.Disk.view c.merge_strict.new.disk) (g.D.Disk.view c.sync_all.new.disk)
    c.in_ok-merged.ensures.same (c.in_ok-sync_all.ensures.none none)

pub returns-clause-next : goal.returns-clause-next
returns-clause-next g c =
    c.in_ok-merged.ensures.next
    ∙ sym (ap (end_after c.args.start.number) c.in_ok-append.ensures.added
    ∙ ends_behind c.args.start.number c.args.start.base c.in_ok-merged.merged.batches c.requires.base)

pub returns-clause-reports : goal.returns-clause-reports
returns-clause-reports g c = λ told.
    let now : Files = files (g.D.Disk.view c.args.disk.now) in
    let listed : AreListedWals (from_wal c.args.start.wal (dirs_as_read now)) now c.in_ok-wals.wals = wals_listed now c.args.start.wal c.in_ok-wals.wals c.args.segments.now c.in_ok-wals.ensures
    c.requires.ascends (c.requires.listed told) in
    record { wals = wals_in now c.in_ok-wals.wals; listed = listed.listed; reported = c.in_ok-merged.ensures.reports told (from_wal c.args.start.wal (dirs_as_read now)) listed }

pub returns-clause-each_moment : goal.returns-clause-each_moment
returns-clause-each_moment g c = λ told.
    same_then (g.D.Disk.view c.args.disk.now) (g.D.Disk.view c.merge_strict.new.disk) (g.D.Disk.view c.sync_all.new.disk) OnlySynced
    c.in_ok-merged.ensures.same (c.in_ok-sync_all.ensures.each_moment told)

pub returns-clause-stable : goal.returns-clause-stable
returns-clause-stable g c = λ told rested.
    let now = g.D.Disk.view c.args.disk.now in
    let new = g.D.Disk.view c.sync_all.new.disk in
    let mid = g.D.Disk.view c.merge_strict.new.disk in
    let each : AtEachMoment now.clock new (OnlySynced (files now)) = same_then now mid new OnlySynced c.in_ok-merged.ensures.same
    (c.in_ok-sync_all.ensures.each_moment told) in
    all_stable c.args.start.wal (files now) (files new) c.args.segments.now (c.requires.listed told) rested
    (each new.clock (omega (arith, c.in_ok-merged.ensures.goes_on.clock, c.in_ok-sync_all.ensures.goes_on.clock)) (omega arith))
    (c.in_ok-sync_all.ensures.synced told)

pub returns-in_err-merged-clause-asks : goal.returns-in_err-merged-clause-asks
returns-in_err-merged-clause-asks g c =
    subst (λ (r : List Found). ReadsOnly r (g.D.Disk.view c.args.disk.now) (g.D.Disk.view c.merge_strict.new.disk))
    (found_of c.in_ok-wals.wals c.args.segments.now c.in_ok-wals.ensures) c.in_err-merged.ensures.asks

pub returns-in_err-append-clause-asks : goal.returns-in_err-append-clause-asks
returns-in_err-append-clause-asks g c =
    subst (λ (r : List Found). ReadsOnly r (g.D.Disk.view c.args.disk.now) (g.D.Disk.view c.merge_strict.new.disk))
    (found_of c.in_ok-wals.wals c.args.segments.now c.in_ok-wals.ensures) c.in_ok-merged.ensures.asks

pub returns-in_err-sync_all-clause-asks : goal.returns-in_err-sync_all-clause-asks
returns-in_err-sync_all-clause-asks g c =
    reads_then_nothing c.args.segments.now (g.D.Disk.view c.args.disk.now) (g.D.Disk.view c.merge_strict.new.disk) (g.D.Disk.view c.sync_all.new.disk)
    (subst (λ (r : List Found). ReadsOnly r (g.D.Disk.view c.args.disk.now) (g.D.Disk.view c.merge_strict.new.disk))
    (found_of c.in_ok-wals.wals c.args.segments.now c.in_ok-wals.ensures) c.in_ok-merged.ensures.asks) c.in_err-sync_all.ensures.asks

pub returns-clause-asks : goal.returns-clause-asks
returns-clause-asks g c =
    reads_then_nothing c.args.segments.now (g.D.Disk.view c.args.disk.now) (g.D.Disk.view c.merge_strict.new.disk) (g.D.Disk.view c.sync_all.new.disk)
    (subst (λ (r : List Found). ReadsOnly r (g.D.Disk.view c.args.disk.now) (g.D.Disk.view c.merge_strict.new.disk))
    (found_of c.in_ok-wals.wals c.args.segments.now c.in_ok-wals.ensures) c.in_ok-merged.ensures.asks) c.in_ok-sync_all.ensures.asks
