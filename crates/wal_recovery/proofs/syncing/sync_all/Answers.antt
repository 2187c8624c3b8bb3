use Rattle.std.proofs.Common.{◌≡◌, ◌<◌, ℕ, [], All, List, length, subst, ap, arith, take_all}
use Rattle.disk_face.specs.View.{files}
use Rattle.disk_face.proofs.Laws.{goes_on_further}
use Rattle.wal_recovery.specs.declared.listing.Found.{Found}
use Rattle.wal_recovery.specs.Rows.{place_listed}
use Rattle.wal_recovery.specs.Resting.{IsSynced}
use Rattle.wal_recovery.proofs.Syncs.{moments_of_both, synced_more}
use Rattle.wal_recovery.proofs.ReadsOnly.{reads_nothing}
use Rattle.wal_recovery.proofs.Calm.{calm_further}
use Rattle.wal_recovery.proofs.syncing.sync_all.Goals as goal

no_place : (segments : List Found) → segments ≡ [] → {i : ℕ} → i < length segments → ⊥
no_place segments none lt = omega (arith, lt, ap (λ (l : List Found). length l) none)

pub loop-segment-preserved : goal.loop-segment-preserved
loop-segment-preserved g c =
    let first = g.D.Disk.view c.args.disk.now in
    let mid = g.D.Disk.view c.loop-segment.disk in
    let new = g.D.Disk.view c.sync.new.disk in
    record {
      goes = goes_on_further first mid new c.loop-segment.invariant.goes c.in_ok-sync.ensures.goes_on;
      asks = reads_nothing first mid new c.loop-segment.invariant.asks c.in_ok-sync.ensures.asks;
      none = λ none. absurd (no_place c.args.segments.now none c.loop-segment-test.true);
      idle = c.in_ok-sync.ensures.idle;
      calm = calm_further first mid new c.loop-segment.invariant.calm c.in_ok-sync.ensures.calm;
      moments = λ told. moments_of_both first mid new c.loop-segment.invariant.goes c.in_ok-sync.ensures.goes_on
          (c.loop-segment.invariant.moments told) (c.in_ok-sync.ensures.each_moment told);
      synced = λ told.
          synced_more (files mid) (files new) c.args.segments.now c.loop-segment.segment-index _ c.loop-segment-test.true (c.loop-segment.invariant.synced told)
          (c.in_ok-sync.ensures.each_moment told new.clock c.in_ok-sync.ensures.goes_on.clock (omega arith)) (c.in_ok-sync.ensures.synced told);
    }

pub returns-clause-synced : goal.returns-clause-synced
returns-clause-synced g c = λ told.
    subst (λ (l : List Found). All (λ (f : Found). IsSynced (files (g.D.Disk.view c.loop-segment.disk) (place_listed f))) l)
    (take_all c.loop-segment.segment-index c.args.segments.now c.loop-segment-test.false) (c.loop-segment.invariant.synced told)

pub returns-in_err-sync-clause-asks : goal.returns-in_err-sync-clause-asks
returns-in_err-sync-clause-asks g c =
    reads_nothing (g.D.Disk.view c.args.disk.now) (g.D.Disk.view c.loop-segment.disk)
    (g.D.Disk.view c.sync.new.disk) c.loop-segment.invariant.asks c.in_err-sync.ensures.asks
