-- What each call of a journal does to what became of it since its start.
use Rattle.std.proofs.Common.{◌≡◌, ◌⊎◌, inl, inr, ℕ, ◌+◌, ◌*◌, ◌≤◌, Bool, true, false, List, [], ◌∷◌, ◌++◌, length, map, IsTrue, ap, sym, subst, ◌∙◌, refl, arith}
use Rattle.std.specs.Prelude.{Contains, count_by}
use Rattle.std.specs.List.{AllByRecursion}
use Rattle.batch_repr.specs.declared.batch.Batch.{Batch}
use Rattle.disk_face.specs.declared.Side.{Side}
use Rattle.disk_face.specs.declared.Side.TheVariants.{Primary, Secondary}
use Rattle.disk_face.specs.View.{Files, DiskView, files}
use Rattle.disk_face.specs.Calls.{WentOn, Stalls}
use Rattle.disk_face.proofs.Laws.{rose_later, rose_earlier, goes_went, went_further}
use Rattle.log_writer.specs.Writer.{Writer}
use Rattle.log_writer.specs.Fits.{place_of_writer}
use Rattle.failover_writer.specs.State.{State, JournalView, len, acked, with_room, is_broken, broken_count}
use Rattle.failover_writer.specs.Ranges.{StandsFor, Stands, KeepsRecords, AddsRecord}
use Rattle.failover_writer.specs.Answered.{IsHarmed, IsSmooth, IsUnstalled, FaultsRose, PollsFell, RoseBy}
use Rattle.failover_writer.specs.Moves.{Pushes}
use Rattle.failover_writer.specs.Keeping.{OthersStay, KeepsBase, KeepsBases, RecoversTo}
use Rattle.failover_writer.specs.Lasting.{Lasts}
use Rattle.failover_writer.specs.Remaining.{polls_left, waited_on_current, pending_in_all}
use Rattle.failover_writer.specs.Outcome.{JournalStart, start_on, IsUnbegun, MayStall, ComesTo, at_start, added, roomier, stalled, JournalOutcome}
use Rattle.failover_writer.specs.Sound.{IsSoundJournal}
use Rattle.failover_writer.proofs.KeepsRun.{run_kept_now}
use Rattle.failover_writer.proofs.RecoversTo.{base_recovers, none_of_opening}
use Rattle.failover_writer.proofs.ComesTo.{comes_further}
use Rattle.failover_writer.proofs.StandsFor.{len_is}

-- ---- faults

rose_then : (start mid new : DiskView) → WentOn mid new → WentOn start mid → FaultsRose start mid → FaultsRose start new
rose_then start mid new later goes (side, rose) = (
  side,
  rose_earlier (start.faults side) (mid.faults side) (new.faults side)
      (goes.faults side) (later.faults side) rose,
)

rose_now : (start mid new : DiskView) → WentOn start mid → FaultsRose mid new → FaultsRose start new
rose_now start mid new goes (side, rose) = (side, rose_later (start.faults side) (mid.faults side) (new.faults side) (goes.faults side) rose)

-- ---- the calls

module _ (tells : Bool) (start : JournalStart) where
  -- nothing but the queue, or the numbers after the last record, changed
  outcome_beside : (own own' : List Batch) (old new : State) (v : DiskView) → new.wal ≡ old.wal → new.base ≡ old.base
      → new.threshold ≡ old.threshold → new.dead ≡ old.dead → new.segments ≡ old.segments → new.left_by_stall ≡ old.left_by_stall
      → StandsFor tells own' new v → ((b : List Batch) → KeepsBase tells b old v → KeepsBase tells b new v)
      → (r : JournalOutcome tells start own old v) → ComesTo start.state start.disk new v → JournalOutcome tells start own' new v
  outcome_beside own own' old new v wal_same base_same threshold dead segments left stands keeps r comes = record {
    stands = stands;
    comes = comes;
    wal_is = wal_same ∙ r.wal_is;
    base_is = base_same ∙ r.base_is;
    threshold_is = threshold ∙ r.threshold_is;
    least = omega (arith, threshold, r.least);
    went_on = r.went_on;
    polls = r.polls;
    harmed = λ harmed. r.harmed (was_harmed harmed);
    smooth = was_smooth r.smooth;
    covers = subst (λ (ws : List Writer). RoseBy (count_by is_broken ws) start.disk v) (sym segments) r.covers;
    unstalled = was_still r.unstalled;
    hangs = λ never. omega (arith, same_pending, r.hangs never);
    kept = λ b was. keeps b (r.kept b was);
    others = λ told first was p outside. r.others told first was p
        (λ has. outside (subst (λ (ws : List Writer). Contains (map place_of_writer ws) p) (sym segments) has));
  }
    where
      same_pending : pending_in_all new v ≡ pending_in_all old v
      same_pending = ap (λ (n : ℕ). n * new.threshold + waited_on_current new.segments + polls_left v) left
          ∙ ap (λ (n : ℕ). old.left_by_stall * n + waited_on_current new.segments + polls_left v) threshold
          ∙ ap (λ (ws : List Writer). old.left_by_stall * old.threshold + waited_on_current ws + polls_left v) segments

      was_harmed : IsHarmed new → IsHarmed old
      was_harmed (inl died) = inl (λ lives. died (dead ∙ lives))
      was_harmed (inr broken) = inr (subst (λ (ws : List Writer). 1 ≤ count_by is_broken ws) segments broken)

      was_still : IsUnstalled old ⊎ MayStall start → IsUnstalled new ⊎ MayStall start
      was_still (inl s) = inl (record { left = left ∙ s.left; waiting = subst (AllByRecursion _) (sym segments) s.waiting })
      was_still (inr x) = inr x

      was_smooth : IsSmooth old ⊎ (FaultsRose start.disk v ⊎ MayStall start)
          → IsSmooth new ⊎ (FaultsRose start.disk v ⊎ MayStall start)
      was_smooth (inl s) = inl (record {
        lives = dead ∙ s.lives;
        few = subst (λ (ws : List Writer). length ws ≤ 1) (sym segments) s.few;
        segments = subst (AllByRecursion _) (sym segments) s.segments;
      })
      was_smooth (inr x) = inr x

  -- polls are left to stall
  pub outcome_stalled : (own : List Batch) (state : State) (v w : DiskView) (side : Side) (polls : ℕ) → IsTrue start.may_stall
      → Stalls side polls v w → StandsFor tells own state w → ((b : List Batch) → KeepsBase tells b state v → KeepsBase tells b state w)
      → JournalOutcome tells start own state v → JournalOutcome tells start own state w
  outcome_stalled own state v w side polls may stalls stands keeps_base r = record {
    stands = stands;
    comes = stalled state v w side polls r.comes stalls;
    wal_is = r.wal_is;
    base_is = r.base_is;
    threshold_is = r.threshold_is;
    least = r.least;
    went_on = went_further start.disk v w r.went_on went;
    polls = λ never. let clash : true ≡ false = sym may ∙ never in absurd cc;
    harmed = λ h. rose_then start.disk v w went r.went_on (r.harmed h);
    smooth = inr (inr (inr may));
    covers = still_covers r.covers;
    unstalled = inr (inr may);
    hangs = λ never. let clash : true ≡ false = sym may ∙ never in absurd cc;
    kept = λ b was. keeps_base b (r.kept b was);
    others = λ told first was. subst (λ (fs : Files). OthersStay first state fs) (sym same) (r.others told first was);
  }
    where
      went : WentOn v w
      went = record {
        faults = λ s. omega (arith, ap (λ (f : Side → ℕ). f s) stalls.faults);
        clock = omega (arith, stalls.same.clock);
        history = λ k low. ap (λ (h : ℕ → Files). h k) stalls.same.history;
      }

      still_covers : RoseBy (broken_count state) start.disk v → RoseBy (broken_count state) start.disk w
      still_covers (inl rose) = inl (omega (arith, rose, went.faults Primary, went.faults Secondary))
      still_covers (inr (s, at_end)) = inr (s, omega (arith, at_end, went.faults s))

      same : files w ≡ files v
      same = ap (λ (h : ℕ → Files). h w.clock) stalls.same.history ∙ ap v.history stalls.same.clock

  module _ {Disk : Type 0} (view : Disk → DiskView) (own : List Batch) (old new : JournalView Disk) where
    -- a call that steps
    pub outcome_further : Lasts tells view old new → KeepsBases tells view old new
        → JournalOutcome tells start own old.state (view old.disk) → JournalOutcome tells start own new.state (view new.disk)
    outcome_further lasts keeps_base r = record {
      stands = lasts.keeps own r.stands;
      comes = comes_further r.comes lasts.comes;
      wal_is = lasts.setting.wal ∙ r.wal_is;
      base_is = lasts.setting.base ∙ r.base_is;
      threshold_is = lasts.setting.threshold ∙ r.threshold_is;
      least = omega (arith, lasts.setting.threshold, r.least);
      went_on = went_further start.disk (view old.disk) (view new.disk) r.went_on went;
      polls = λ never side. omega (arith, r.polls never side, lasts.goes_on.polls side);
      harmed = λ h. by_harm (lasts.harmed h);
      smooth = by_smooth r.smooth;
      covers = lasts.covers start.disk r.covers;
      unstalled = by_still r.unstalled;
      hangs = λ never. omega (arith, lasts.hangs, r.hangs never);
      kept = λ b was. keeps_base b (r.kept b was);
      others = λ told first was. lasts.passes.others first told (r.others told first was);
    }
      where
        went : WentOn (view old.disk) (view new.disk)
        went = goes_went (view old.disk) (view new.disk) lasts.goes_on

        by_harm : IsHarmed old.state ⊎ FaultsRose (view old.disk) (view new.disk) → FaultsRose start.disk (view new.disk)
        by_harm (inl was) = rose_then start.disk (view old.disk) (view new.disk) went r.went_on (r.harmed was)
        by_harm (inr rose) = rose_now start.disk (view old.disk) (view new.disk) r.went_on rose

        fell_only : (may : Bool) → start.may_stall ≡ may → PollsFell (view old.disk) (view new.disk)
            → IsSmooth new.state ⊎ (FaultsRose start.disk (view new.disk) ⊎ MayStall start)
        fell_only true is fell = inr (inr (inr is))
        fell_only false is (side, fell) = inr (inr (inl (side, omega (arith, fell, r.polls is side))))

        by_new : IsSmooth new.state ⊎ (FaultsRose (view old.disk) (view new.disk) ⊎ PollsFell (view old.disk) (view new.disk))
            → IsSmooth new.state ⊎ (FaultsRose start.disk (view new.disk) ⊎ MayStall start)
        by_new (inl s) = inl s
        by_new (inr (inl rose)) = inr (inl (rose_now start.disk (view old.disk) (view new.disk) r.went_on rose))
        by_new (inr (inr fell)) = fell_only start.may_stall refl fell

        fell_stalls : (may : Bool) → start.may_stall ≡ may → PollsFell (view old.disk) (view new.disk) → MayStall start
        fell_stalls true is fell = inr is
        fell_stalls false is (side, fell) = inl (side, omega (arith, fell, r.polls is side))

        by_new_still : IsUnstalled new.state ⊎ PollsFell (view old.disk) (view new.disk) → IsUnstalled new.state ⊎ MayStall start
        by_new_still (inl s) = inl s
        by_new_still (inr fell) = inr (fell_stalls start.may_stall refl fell)

        by_still : IsUnstalled old.state ⊎ MayStall start → IsUnstalled new.state ⊎ MayStall start
        by_still (inl s) = by_new_still (lasts.unstalled r.least s)
        by_still (inr left) = inr left

        by_smooth : IsSmooth old.state ⊎ (FaultsRose start.disk (view old.disk) ⊎ MayStall start)
            → IsSmooth new.state ⊎ (FaultsRose start.disk (view new.disk) ⊎ MayStall start)
        by_smooth (inl s) = by_new (lasts.smooth r.least s)
        by_smooth (inr (inl rose)) = inr (inl (rose_then start.disk (view old.disk) (view new.disk) went r.went_on rose))
        by_smooth (inr (inr left)) = inr (inr left)

    -- room was made
    pub outcome_roomier : (spare : ℕ) → new ≡ with_room spare old → KeepsRecords tells view old new → KeepsBases tells view old new
        → JournalOutcome tells start own old.state (view old.disk) → JournalOutcome tells start own new.state (view new.disk)
    outcome_roomier spare same keeps keeps_base r =
        let roomy : State = record old.state { queue = record old.state.queue { spare = spare } } in
        subst (λ (h : JournalView Disk). JournalOutcome tells start own h.state (view h.disk)) (sym same)
        (outcome_beside own own old.state roomy (view old.disk) refl refl refl refl refl refl
        (subst (λ (h : JournalView Disk). StandsFor tells own h.state (view h.disk)) same (keeps own r.stands))
        (λ b was. subst (λ (h : JournalView Disk). KeepsBase tells b h.state (view h.disk)) same (keeps_base b was)) r
        (roomier old.state (view old.disk) spare r.comes))

    -- a record was added
    pub outcome_added : (batch : Batch) (sync : Bool) → Pushes batch sync old.state new.state → new.disk ≡ old.disk
        → AddsRecord tells view batch old new → KeepsBases tells view old new
        → JournalOutcome tells start own old.state (view old.disk) → JournalOutcome tells start (own ++ batch ∷ []) new.state (view new.disk)
    outcome_added batch sync pushes disk keeps keeps_base r =
        let e = pushes.new_is in
        subst (λ (d : Disk). JournalOutcome tells start (own ++ batch ∷ []) new.state (view d)) (sym disk)
        (outcome_beside own (own ++ batch ∷ []) old.state new.state (view old.disk) (ap (λ (s : State). s.wal) e)
        (ap (λ (s : State). s.base) e) (ap (λ (s : State). s.threshold) e) (ap (λ (s : State). s.dead) e)
        (ap (λ (s : State). s.segments) e) (ap (λ (s : State). s.left_by_stall) e)
        (subst (λ (d : Disk). StandsFor tells (own ++ batch ∷ []) new.state (view d)) disk (keeps own r.stands))
        (λ b was. subst (λ (d : Disk). KeepsBase tells b new.state (view d)) disk (keeps_base b was)) r
        (added old.state new.state (view old.disk) batch sync r.comes pushes))

-- ---- the start

none_stand : (tells : Bool) (records : List Batch) (state : State) (v : DiskView) → StandsFor tells records state v → len state ≡ 0
    → StandsFor tells [] state v
none_stand tells [] state v stands empty = stands
none_stand tells (batch ∷ records) state v stands empty = absurd (omega (arith, empty, len_is tells (batch ∷ records) state v stands))

-- a journal that has no record
pub unbegun_on : {Disk : Type 0} (tells : Bool) (view : Disk → DiskView) (journal : JournalView Disk) (may_stall : Bool)
    → len journal.state ≡ 0 → Stands tells journal.state (view journal.disk) → IsSoundJournal journal.state
    → IsUnbegun tells (start_on view journal may_stall)
unbegun_on tells view journal may_stall empty stands sound =
    let none = sound.none empty in
    record {
      empty = none_stand tells stands.0 journal.state (view journal.disk) stands.1 empty;
      none_begun = none.0;
      lives = none.1;
      none_left = omega (arith, sound.accounted.few, ap (λ (ws : List Writer). length ws) none.0);
    }

pub outcome_begun : (tells : Bool) (start : JournalStart) → IsUnbegun tells start → 1 ≤ start.state.threshold
    → JournalOutcome tells start [] start.state start.disk
outcome_begun tells start unbegun least = record {
  stands = unbegun.empty;
  comes = at_start;
  wal_is = refl;
  base_is = refl;
  threshold_is = refl;
  least = least;
  went_on = record { faults = λ side. omega arith; clock = omega arith; history = λ k low. refl };
  polls = λ never side. omega arith;
  harmed = λ harm. absurd (unharmed harm);
  smooth = inl (record {
    lives = unbegun.lives;
    few = omega (arith, ap (λ (ws : List Writer). length ws) unbegun.none_begun);
    segments = subst (AllByRecursion _) (sym unbegun.none_begun) tt;
  });
  covers = inl (omega (arith, ap (λ (ws : List Writer). count_by is_broken ws) unbegun.none_begun));
  unstalled = inl (record { left = unbegun.none_left; waiting = subst (AllByRecursion _) (sym unbegun.none_begun) tt });
  hangs = λ never.
      let none : start.state.left_by_stall * start.state.threshold ≡ 0 * start.state.threshold = ap (λ (n : ℕ). n * start.state.threshold) unbegun.none_left in
      omega (arith, none, ap waited_on_current unbegun.none_begun);
  kept = λ base keeps. keeps;
  others = λ told first stay. stay;
}
  where
    unharmed : IsHarmed start.state → ⊥
    unharmed (inl died) = died unbegun.lives
    unharmed (inr broken) = omega (arith, broken, ap (λ (ws : List Writer). count_by is_broken ws) unbegun.none_begun)

-- ---- a stop

-- what its files recover to
pub outcome_recovers : (tells : Bool) (start : JournalStart) (batches : List Batch) (state : State) (v : DiskView) (base : List Batch) → IsTrue tells
    → JournalOutcome tells start batches state v → KeepsBase tells base start.state start.disk → RecoversTo base batches (acked state) (files v)
outcome_recovers tells start batches state v base told outcome keeps =
    let k = outcome.kept base keeps in
    base_recovers state.wal state.base batches base (acked state) k.opening (files v) k.begun
    (run_kept_now tells batches k.opening state v told outcome.stands
    (record { absent = none_of_opening state.wal state.base base k.opening k.begun; others = k.others told }))
