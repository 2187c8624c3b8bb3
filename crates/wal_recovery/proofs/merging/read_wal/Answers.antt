use Rattle.std.proofs.Common.{◌≡◌, [], List, Err, IsTrue, sym, subst, rules, take_all}
use Rattle.std.specs.Prelude.{IfErr, Result}
use Rattle.segment_merge.specs.declared.segment.SegmentRead.{SegmentRead}
use Rattle.disk_face.specs.View.{files}
use Rattle.disk_face.proofs.Laws.{goes_on_from, goes_on_further, same_from, same_further, same_files}
use Rattle.wal_recovery.specs.declared.fault.RecoverFault.{RecoverFault}
use Rattle.wal_recovery.specs.declared.listing.Found.{Found}
use Rattle.wal_recovery.specs.Answers.{DiskMemoryOr}
use Rattle.wal_recovery.specs.Gathered.{AreAsListed, GathersWal, IsFirstBadOf}
use Rattle.wal_recovery.proofs.GathersWal.{wal_none, wal_step, wal_row, first_bad}
use Rattle.wal_recovery.specs.Asking.{ReadsOnly}
use Rattle.wal_recovery.proofs.ReadsOnly.{reads_none, reads_taken, reads_within}
use Rattle.wal_recovery.proofs.Calm.{calm_from, calm_further}
use Rattle.wal_recovery.proofs.merging.read_wal.Goals as goal

pub loop-segment-init : goal.loop-segment-init
loop-segment-init g c =
    let v = g.D.Disk.view c.args.disk.now in
    record {
      goes = goes_on_from v;
      same = same_from v;
      calm = calm_from v;
      asks = reads_none [] v;
      gathered = subst (λ (r : List SegmentRead). GathersWal g.D.Disk.tells c.args.mode (files v) [] c.args.reports.now c.args.reports.now r)
          (sym c.new-row.ensures) (wal_none g.D.Disk.tells c.args.mode (files v) c.args.reports.now);
    }

pub loop-segment-preserved : goal.loop-segment-preserved
loop-segment-preserved g c =
    let first = g.D.Disk.view c.args.disk.now in
    let mid = g.D.Disk.view c.loop-segment.disk in
    let new = g.D.Disk.view c.read_segment.new.disk in
    let now : files mid ≡ files first = same_files first mid c.loop-segment.invariant.same in
    record {
      goes = goes_on_further first mid new c.loop-segment.invariant.goes c.in_ok-read_segment.ensures.goes_on;
      same = same_further first mid new c.loop-segment.invariant.same c.in_ok-read_segment.ensures.same;
      calm = calm_further first mid new c.loop-segment.invariant.calm c.in_ok-read_segment.ensures.calm;
      asks = reads_taken c.deref-segment-items.result.now c.loop-segment.segment-index _ first mid new c.loop-segment-test.true
          c.loop-segment.invariant.asks c.in_ok-read_segment.ensures.asks;
      gathered = wal_step g.D.Disk.tells c.args.mode (files first) (files mid) now c.deref-segment-items.result.now c.loop-segment.segment-index _
          c.args.reports.now c.loop-segment.reports c.read_segment.new.reports c.loop-segment.row c.read_segment.new.row
          c.loop-segment-test.true c.loop-segment.invariant.gathered c.in_ok-read_segment.ensures.added;
    }

pub returns-in_err-read_segment-clause-bad : goal.returns-in_err-read_segment-clause-bad
returns-in_err-read_segment-clause-bad g c =
    let first = g.D.Disk.view c.args.disk.now in
    let mid = g.D.Disk.view c.loop-segment.disk in
    let now : files mid ≡ files first = same_files first mid c.loop-segment.invariant.same in
    let fault = c.in_err-read_segment.field-0.0 in
    let is : c.from_residual.result ≡ Err fault = search rules in
    subst (λ (l : List Found). IfErr c.from_residual.result (λ fault. IsTrue g.D.Disk.tells → AreAsListed (files first) l
    → DiskMemoryOr (IsFirstBadOf c.args.mode (files first) l) fault)) c.deref-segment-items.ensures.value
    (subst (λ (r : Result (List SegmentRead) RecoverFault). IfErr r
    (λ fault. IsTrue g.D.Disk.tells → AreAsListed (files first) c.deref-segment-items.result.now
    → DiskMemoryOr (IsFirstBadOf c.args.mode (files first) c.deref-segment-items.result.now) fault)) (sym is)
    (λ told listed. first_bad g.D.Disk.tells c.args.mode (files first) (files mid) now c.deref-segment-items.result.now c.loop-segment.segment-index _
    c.args.reports.now c.loop-segment.reports fault c.loop-segment-test.true c.loop-segment.invariant.gathered.added told listed
    (c.in_err-read_segment.ensures.bad told)))

pub returns-clause-gathered : goal.returns-clause-gathered
returns-clause-gathered g c =
    subst (λ (l : List Found). GathersWal g.D.Disk.tells c.args.mode (files (g.D.Disk.view c.args.disk.now)) l c.args.reports.now c.loop-segment.reports
    c.loop-segment.row) c.deref-segment-items.ensures.value
    (subst (λ (l : List Found). GathersWal g.D.Disk.tells c.args.mode (files (g.D.Disk.view c.args.disk.now)) l c.args.reports.now
    c.loop-segment.reports c.loop-segment.row)
    (take_all c.loop-segment.segment-index c.deref-segment-items.result.now c.loop-segment-test.false) c.loop-segment.invariant.gathered)

pub returns-clause-row : goal.returns-clause-row
returns-clause-row g c =
    wal_row g.D.Disk.tells c.args.mode (files (g.D.Disk.view c.args.disk.now)) c.args.wal.now.segments.items c.args.reports.now c.loop-segment.reports
    c.loop-segment.row c.requires (returns-clause-gathered g c)

pub returns-in_err-read_segment-clause-asks : goal.returns-in_err-read_segment-clause-asks
returns-in_err-read_segment-clause-asks g c =
    let first = g.D.Disk.view c.args.disk.now in
    let mid = g.D.Disk.view c.loop-segment.disk in
    let new = g.D.Disk.view c.read_segment.new.disk in
    subst (λ (l : List Found). ReadsOnly l first new) c.deref-segment-items.ensures.value
    (reads_within c.deref-segment-items.result.now c.loop-segment.segment-index _ first mid new c.loop-segment-test.true
    c.loop-segment.invariant.asks c.in_err-read_segment.ensures.asks)

pub returns-clause-asks : goal.returns-clause-asks
returns-clause-asks g c =
    let first = g.D.Disk.view c.args.disk.now in
    let mid = g.D.Disk.view c.loop-segment.disk in
    subst (λ (l : List Found). ReadsOnly l first mid) c.deref-segment-items.ensures.value
    (subst (λ (l : List Found). ReadsOnly l first mid) (take_all c.loop-segment.segment-index c.deref-segment-items.result.now
    c.loop-segment-test.false) c.loop-segment.invariant.asks)
