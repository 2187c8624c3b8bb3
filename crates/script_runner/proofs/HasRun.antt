-- What the journal of a run came to, by what became of it since its start.
use Rattle.std.proofs.Common.{◌≡◌, ◌≢◌, ◌⊎◌, inl, inr, ℕ, suc, ◌+◌, ◌*◌, ◌<◌, ◌≤◌, ◌-◌, Bool, true, false, List, [], ◌∷◌, length, map, Option, Some, None, IsTrue, ap, sym, subst, ◌∙◌, refl, arith}
use Rattle.std.specs.Prelude.{◌↔◌, is_some, max, Contains}
use Rattle.std.specs.List.{AllByRecursion}
use Rattle.std.proofs.lemmas.List.{nil_from_length}
use native.Mathlib.Decide.{dec_le}
use Rattle.batch_repr.specs.declared.batch.Batch.{Batch}
use Rattle.disk_face.specs.declared.SegName.{SegName}
use Rattle.disk_face.specs.View.{Place, DiskView, files}
use Rattle.disk_face.specs.Asked.{creations, LastHasFailed}
use Rattle.log_writer.specs.Writer.{Writer}
use Rattle.log_writer.specs.Fits.{place_of_writer}
use Rattle.stall_monitor.specs.declared.verdict.TheConstants.{SEGMENTS_MAX}
use Rattle.failover_writer.specs.declared.fault.DeadMark.{DeadMark}
use Rattle.failover_writer.specs.State.{State, JournalView, unbegun, acked, most_synced, broken_count}
use Rattle.failover_writer.specs.Ranges.{AreJoined, StandsFor}
use Rattle.failover_writer.specs.Answered.{FaultsRose, IsSmooth, IsUnstalled, RoseBy}
use Rattle.wal_recovery.specs.Further.{IsElsewhere}
use Rattle.failover_writer.specs.Keeping.{HasNoSegment, KeepsRun, OthersStay}
use Rattle.failover_writer.specs.Remaining.{polls_left}
use Rattle.failover_writer.specs.Running.{PollsLeft, OthersSame}
use Rattle.failover_writer.specs.Sound.{CountsLeaveFew}
use Rattle.failover_writer.proofs.Laws.{TellCalls, tell_calls, given_up_told, gives_up_told, counts_leave_few, rose_by_less, len_is, synced_within, not_theirs, run_kept_now, reads_as_image}
use Rattle.session_replies.specs.declared.replies.RunEnd.{RunEnd}
use Rattle.session_replies.specs.declared.script.Round.{Round}
use Rattle.failover_writer.specs.Outcome.{JournalStart, IsUnbegun, MayStall, JournalOutcome}
use Rattle.script_runner.specs.Runs.{WasClosed, StallsSome, HasCauses, EndsRunAs, HasRun, TellsJournal, run_start}
use Rattle.script_runner.proofs.AllowsStalls.{some_stall}

-- ---- the opening

-- A run's journal was started over the disk, with this threshold, WAL and first number.
pub record IsStarted (threshold : ℕ) (tells : Bool) (start : JournalStart) (wal first : ℕ) (rounds : List Round) : Type 0 where
  pub started_as : start.state ≡ unbegun wal first threshold start.state.queue
  pub empty : IsUnbegun tells start
  pub stay : OthersStay (files start.disk) start.state (files start.disk)
  pub may : IsTrue start.may_stall → StallsSome rounds

pub is_started : {Disk : Type 0} (threshold : ℕ) (tells : Bool) (view : Disk → DiskView) (rounds : List Round)
    (wal first : ℕ) (disk : Disk) (journal : JournalView Disk) → journal ≡ record { disk = disk; state = unbegun wal first threshold journal.state.queue }
    → StandsFor tells [] journal.state (view journal.disk) → OthersStay (files (view disk)) journal.state (files (view journal.disk))
    → IsStarted threshold tells (run_start view rounds journal) wal first rounds
is_started threshold tells view rounds wal first disk journal made stands stay =
    let same : disk ≡ journal.disk = sym (ap (λ (j : JournalView _). j.disk) made) in
    record {
      started_as = ap (λ (j : JournalView _). j.state) made;
      empty = record {
        empty = stands;
        none_begun = ap (λ (j : JournalView _). j.state.segments) made;
        lives = ap (λ (j : JournalView _). j.state.dead) made;
        none_left = ap (λ (j : JournalView _). j.state.left_by_stall) made;
      };
      stay = subst (λ (d : _). OthersStay (files (view d)) journal.state (files (view journal.disk))) same stay;
      may = some_stall rounds;
    }

-- ---- the files

-- A segment of this WAL stands nowhere else.
stand_apart : (wal index synced : ℕ) (ws : List Writer) (p : Place) → AreJoined wal index synced ws → IsElsewhere wal p
    → AllByRecursion (λ (w : Writer). place_of_writer w ≢ p) ws
unfolding AreJoined
stand_apart wal index synced [] p joined elsewhere = tt
stand_apart wal index synced (w ∷ ws) p joined elsewhere = (
  λ e. subst (IsElsewhere wal) (sym e) elsewhere (ap (λ (n : SegName). n.wal) joined.0.name),
  stand_apart wal (suc index) (max synced w.synced) ws p joined.2 elsewhere,
)

module _ (threshold : ℕ) (tells : Bool) (start : JournalStart) (wal first : ℕ) (rounds : List Round) (own : List Batch) (state : State) (v : DiskView)
    (started : IsStarted threshold tells start wal first rounds) (r : JournalOutcome tells start own state v) where
  wal_same : state.wal ≡ wal
  wal_same = r.wal_is ∙ ap (λ (s : State). s.wal) started.started_as

  pub run_others : IsTrue tells → OthersSame wal (files start.disk) (files v)
  run_others told p elsewhere =
      r.others told (files start.disk) started.stay p (not_theirs state.segments p (stand_apart state.wal 0 0 state.segments p r.stands.joined
      (subst (λ (n : ℕ). IsElsewhere n p) (sym wal_same) elsewhere)))

  -- ---- the end

  module _ (end : RunEnd) (told_end : TellsJournal state v end) where
    none_begun : own ≡ [] → state.segments ≡ []
    none_begun empty = (told_end.sound.none (len_is tells own state v r.stands ∙ ap length empty)).0

    acked_none : state.segments ≡ [] → acked state ≡ 0
    unfolding most_synced
    acked_none empty = ap (λ (ws : List Writer). most_synced 0 ws) empty

    dead : IsTrue end.died → state.dead ≢ None
    dead d none =
        let clash : IsTrue (is_some {T = DeadMark} None) = subst (λ (o : Option DeadMark). IsTrue (is_some o)) none (subst IsTrue told_end.died_is d) in
        cc

    ten : state.dead ≢ None → length state.segments ≡ SEGMENTS_MAX
    ten died = go state.dead refl
      where
        go : (o : Option DeadMark) → state.dead ≡ o → length state.segments ≡ SEGMENTS_MAX
        go None is = absurd (died is)
        go (Some mark) is = (told_end.sound.dead mark is).all

    all_own : WasClosed end → end.acked ≡ length own
    all_own closed = told_end.acked_is ∙ told_end.all closed ∙ len_is tells own state v r.stands

    begun : (d : Bool) → end.died ≡ d → end.halted ≡ false → length state.segments ≡ 0 → length own ≡ 0
    begun true is going none = omega (arith, ten (dead is), none)
    begun false is going none = omega (
      arith,
      all_own (record { lives = is; goes_on = going }),
      told_end.acked_is,
      acked_none (nil_from_length state.segments none),
    )

    more : IsSmooth state ⊎ (FaultsRose start.disk v ⊎ MayStall start) → 1 < length state.segments
        → FaultsRose start.disk v ⊎ (PollsLeft start.disk ⊎ StallsSome rounds)
    more (inl s) many = absurd (omega (arith, s.few, many))
    more (inr (inl rose)) many = inl rose
    more (inr (inr (inl left))) many = inr (inl left)
    more (inr (inr (inr may))) many = inr (inr (started.may may))

    few : CountsLeaveFew state
    few = counts_leave_few state told_end.sound

    -- so many faults, or a stall
    faults_or : IsUnstalled state ⊎ MayStall start → (n : ℕ) → (IsUnstalled state → n ≤ broken_count state)
        → RoseBy n start.disk v ⊎ (PollsLeft start.disk ⊎ StallsSome rounds)
    faults_or (inl still) n less = inl (rose_by_less (broken_count state) n start.disk v (less still) r.covers)
    faults_or (inr (inl left)) n less = inr (inl left)
    faults_or (inr (inr may)) n less = inr (inr (started.may may))

    threshold_same : state.threshold ≡ threshold
    threshold_same = r.threshold_is ∙ ap (λ (s : State). s.threshold) started.started_as

    -- Where no round stalls polls, the pending ones were taken from those left at the start.
    pending : (may : Bool) → start.may_stall ≡ may → (state.left_by_stall * threshold + polls_left v ≤ polls_left start.disk) ⊎ StallsSome rounds
    pending true is = inr (started.may (subst IsTrue (sym is) refl))
    pending false is = inl (subst (λ (t : ℕ). state.left_by_stall * t + polls_left v ≤ polls_left start.disk) threshold_same
        (omega (arith, r.hangs is)))

    causes : HasCauses threshold rounds end start.disk v
    causes = record {
      failures = broken_count state;
      stalls = state.left_by_stall;
      segments = omega (arith, few.segments, told_end.segments_is);
      death = λ d. few.dead (dead d);
      rose = r.covers;
      pending = pending start.may_stall refl;
    }

    -- what the calls of its disk tell
    calls : TellCalls start.disk.calls state v.calls
    calls = tell_calls r.comes started.empty.none_begun started.empty.lives

    marked : (o : Option DeadMark) → o ≢ None → is_some o ≡ true
    marked None some = absurd (some refl)
    marked (Some mark) some = refl

    gave_up : IsTrue end.died ↔ ((end.segments ≡ SEGMENTS_MAX) × LastHasFailed v.calls)
    gave_up = (
      λ d. let told = given_up_told start.disk.calls state v.calls calls (dead d) in (told_end.segments_is ∙ told.0, told.1),
      λ p. told_end.died_is ∙ marked state.dead (gives_up_told start.disk.calls state v.calls calls (sym told_end.segments_is ∙ p.0) p.1),
    )

    ends : EndsRunAs threshold rounds (length own) end start.disk v
    ends = record {
      within = omega (arith, told_end.acked_is, synced_within tells own v 0 state.segments (omega arith) r.stands.fit);
      all = all_own;
      rests = told_end.rests;
      begun = λ going none. begun end.died refl going (omega (arith, none, told_end.segments_is));
      none = λ empty. told_end.segments_is ∙ ap length (none_begun (nil_from_length own empty));
      more = λ many. more r.smooth (omega (arith, many, told_end.segments_is));
      failed = λ d. r.harmed (inl (dead d));
      ten = λ d. told_end.segments_is ∙ ten (dead d);
      each_fault = faults_or r.unstalled (end.segments - 1) (λ still. omega (arith, few.segments, still.left, told_end.segments_is));
      ten_faults = λ d. faults_or r.unstalled SEGMENTS_MAX (λ still. omega (arith, few.dead (dead d), still.left));
      causes = causes;
      created = calls.created ∙ ap (λ (n : ℕ). creations start.disk.calls + n) (sym told_end.segments_is);
      gave_up = gave_up;
    }

    not_broken : (FaultsRose start.disk v → ⊥) → broken_count state ≡ 0
    not_broken calm = elim (dec_le 1 (broken_count state)) [
      | yes some ↦ absurd (calm (r.harmed (inr some)))
      | no none ↦ omega (arith, none)
    ]

    base_same : state.base ≡ first
    base_same = r.base_is ∙ ap (λ (s : State). s.base) started.started_as

    keeps : IsTrue tells → HasNoSegment wal (files start.disk) → KeepsRun wal first own end.acked (files start.disk) (files v)
    keeps told absent =
        let kept : KeepsRun state.wal state.base own (acked state) (files start.disk) (files v) =
        run_kept_now tells own (files start.disk) state v told r.stands (record {
          absent = subst (λ (n : ℕ). HasNoSegment n (files start.disk)) (sym wal_same) absent;
          others = r.others told (files start.disk) started.stay;
        }) in
        subst (λ (n : ℕ). KeepsRun n first own end.acked (files start.disk) (files v)) wal_same
        (subst (λ (n : ℕ). KeepsRun state.wal n own end.acked (files start.disk) (files v)) base_same
        (subst (λ (n : ℕ). KeepsRun state.wal state.base own n (files start.disk) (files v)) (sym told_end.acked_is) kept))

    pub has_run : HasRun threshold tells start.disk wal first rounds own end v
    has_run = record {
      ends = ends;
      others = run_others;
      nothing = λ told empty p. r.others told (files start.disk) started.stay p
          (λ has. let none : Contains [] p = subst (λ (ws : List Writer). Contains (map place_of_writer ws) p) (none_begun empty) has in omega (arith, none.1));
      keeps = keeps;
      read = λ told rested calm. reads_as_image tells own (files start.disk) state v told r.stands (not_broken calm) rested
          (r.others told (files start.disk) started.stay);
    }
