-- What holds of steps one after another, and what a closing comes to by it.
use Rattle.std.proofs.Common.{◌≡◌, ◌≢◌, inl, inr, ℕ, ◌<◌, Bool, List, [], ◌∷◌, length, Option, Some, None, Result, Ok, OnOk, IfErr, ap, sym, subst, ◌∙◌, refl, arith}
use native.Mathlib.Decide.{dec_lt}
use Rattle.std.proofs.lemmas.List.{length-drop}
use Rattle.std.proofs.lemmas.Result.{on_ok_weaker}
use Rattle.batch_repr.specs.declared.batch.Batch.{Batch}
use Rattle.disk_face.specs.declared.Progress.{Progress}
use Rattle.disk_face.specs.declared.OpId.{OpId}
use Rattle.disk_face.specs.View.{Flight, DiskView, NothingInFlight}
use Rattle.disk_face.specs.Calls.{GoesOn}
use Rattle.disk_face.proofs.Laws.{goes_on_from, goes_on_further, rose_later, rose_earlier}
use Rattle.log_writer.specs.declared.phase.Phase.{Phase}
use Rattle.log_writer.specs.declared.phase.Phase.TheVariants.{New, InFlight, Idle, Broken}
use Rattle.log_writer.specs.Writer.{Writer}
use Rattle.log_writer.specs.Fits.{Fits, HasFlight, IsBusy, place_of_writer}
use Rattle.failover_writer.specs.declared.fault.DeadMark.{DeadMark}
use Rattle.failover_writer.specs.declared.fault.JournalFault.{JournalFault}
use Rattle.failover_writer.specs.declared.fault.Step.{Step}
use Rattle.failover_writer.specs.declared.fault.Step.TheVariants as steps
use Rattle.failover_writer.specs.Setting.{KeepsEnd, KeepsGoal}
use Rattle.disk_face.specs.declared.Side.{Side}
use Rattle.failover_writer.specs.State.{State, JournalView, len, acked}
use Rattle.failover_writer.specs.Ranges.{StandsFor, Stands}
use Rattle.failover_writer.specs.Stepping as stepping
use Rattle.failover_writer.specs.Stepping.{NoneBusy, WantsMore, Polls, first, none_to_begin, switches, starts, stays, Dies, Releases, StepRule, was_dead, idle, dies, goes, short}
use Rattle.failover_writer.specs.Answered.{StepsBy, StepsOn, MovesOn, IsIdle, IsMarked, FaultsRose, PollsFell, last_answer}
use Rattle.failover_writer.specs.Closing.{Drains, Moves}
use Rattle.failover_writer.specs.Lasting.{Lasts}
use Rattle.failover_writer.specs.Outcome.{ComesTo, at_start, asked}
use Rattle.failover_writer.proofs.ComesTo.{comes_further}
use Rattle.failover_writer.proofs.Segments.{all_from, not_theirs}
use Rattle.failover_writer.proofs.Releases.{acked_within}
use Rattle.failover_writer.proofs.Passes.{passes_still, passes_further}
use Rattle.failover_writer.proofs.Falls.{polls_lower}

-- ---- what a step leaves as it was

pub end_still : (old new : State) → new ≡ old → KeepsEnd old new
end_still old new is = record {
  wal = ap (λ (s : State). s.wal) is;
  base = ap (λ (s : State). s.base) is;
  threshold = ap (λ (s : State). s.threshold) is;
  next = ap (λ (s : State). s.next) is;
  end = ap (λ (s : State). len s) is;
}

pub end_further : (old mid new : State) → KeepsEnd old mid → KeepsEnd mid new → KeepsEnd old new
end_further old mid new one two = record {
  wal = two.wal ∙ one.wal;
  base = two.base ∙ one.base;
  threshold = two.threshold ∙ one.threshold;
  next = two.next ∙ one.next;
  end = two.end ∙ one.end;
}

pub goal_still : (old new : State) → new ≡ old → KeepsGoal old new
goal_still old new is = record { keeps = end_still old new is; want = ap (λ (s : State). s.want) is }

pub goal_further : (old mid new : State) → KeepsGoal old mid → KeepsGoal mid new → KeepsGoal old new
goal_further old mid new one two = record { keeps = end_further old mid new one.keeps two.keeps; want = two.want ∙ one.want }

goal_beside : (old new : State) (segments : List Writer) → new ≡ record old { segments = segments } → KeepsGoal old new
goal_beside old new segments is =
    let same = goal_still (record old { segments = segments }) new is in
    let e = same.keeps in
    record { keeps = record { wal = e.wal; base = e.base; threshold = e.threshold; next = e.next; end = e.end }; want = same.want }

goal_begun : (old new : State) (segments : List Writer) (left : ℕ) → new ≡ record old { segments = segments; left_by_stall = left } → KeepsGoal old new
goal_begun old new segments left is =
    let same = goal_still (record old { segments = segments; left_by_stall = left }) new is in
    let e = same.keeps in
    record { keeps = record { wal = e.wal; base = e.base; threshold = e.threshold; next = e.next; end = e.end }; want = same.want }

goal_polled : {old polled : State} {one other : Option Progress} → Polls old one other polled → KeepsGoal old polled
goal_polled {old = old} {polled = polled} polls = goal_beside old polled polled.segments (polls_lower polls).same

goal_went : (polled new : State) → stepping.ActsAfterPolls polled new → KeepsGoal polled new
goal_went polled new (first _ none behind begins) = goal_begun polled new _ _ begins.new_is
goal_went polled new (none_to_begin none not_behind) = goal_still polled polled refl
goal_went polled new (switches _ verdict begins fresh) = goal_begun polled new _ _ begins.new_is
goal_went polled new (starts _ verdict behind is fresh) = goal_beside polled new _ is.new_is
goal_went polled new (stays verdict none) = goal_still polled polled refl

goal_died : (polled new : State) (side : Side) (count : ℕ) → Dies polled new side count → KeepsGoal polled new
goal_died polled new side count died = record {
  keeps = record {
    wal = ap (λ (s : State). s.wal) died.new_is;
    base = ap (λ (s : State). s.base) died.new_is;
    threshold = ap (λ (s : State). s.threshold) died.new_is;
    next = ap (λ (s : State). s.next) died.new_is;
    end = ap (λ (s : State). len s) died.new_is;
  };
  want = ap (λ (s : State). s.want) died.new_is;
}

goal_released : (started new : State) → Releases started new → KeepsGoal started new
goal_released started new releases = record {
  keeps = record {
    wal = ap (λ (s : State). s.wal) releases.new_is;
    base = ap (λ (s : State). s.base) releases.new_is;
    threshold = ap (λ (s : State). s.threshold) releases.new_is;
    next = ap (λ (s : State). s.next) releases.new_is;
    end = releases.end;
  };
  want = ap (λ (s : State). s.want) releases.new_is;
}

pub goal_kept : {old new : State} {one other : Option Progress} {answer : Result Step JournalFault} → StepRule old one other new answer → KeepsGoal old new
goal_kept {old = old} (was_dead side count dead) = goal_still old old refl
goal_kept {old = old} (idle lives rests none) = goal_still old old refl
goal_kept {old = old} (dies one other polled new side count up polls died) = goal_further old polled new (goal_polled polls)
    (goal_died polled new side count died)
goal_kept {old = old} (goes one other polled started new up polls went releases) =
    goal_further old polled new (goal_polled polls) (goal_further polled started new (goal_went polled started went) (goal_released started new releases))
goal_kept (short one other polled up polls lives) = goal_polled polls

-- ---- steps one after another

rose_before : (before between after : DiskView) → GoesOn before between → GoesOn between after → FaultsRose before between → FaultsRose before after
rose_before before between after one two rose =
    (rose.0, rose_earlier (before.faults rose.0) (between.faults rose.0) (after.faults rose.0) (one.faults rose.0) (two.faults rose.0) rose.1)

rose_after : (before between after : DiskView) → GoesOn before between → FaultsRose between after → FaultsRose before after
rose_after before between after one rose = (rose.0, rose_later (before.faults rose.0) (between.faults rose.0) (after.faults rose.0) (one.faults rose.0) rose.1)

fell_before : (before between after : DiskView) → GoesOn between after → PollsFell before between → PollsFell before after
fell_before before between after two fell = (fell.0, omega (arith, fell.1, two.polls fell.0))

fell_after : (before between after : DiskView) → GoesOn before between → PollsFell between after → PollsFell before after
fell_after before between after one fell = (fell.0, omega (arith, fell.1, one.polls fell.0))

module _ {Disk : Type 0} (tells : Bool) (view : Disk → DiskView) where
  -- A call that changes nothing but what is asked for.
  pub lasts_beside : (old : JournalView Disk) (want : ℕ)
      → ComesTo old.state (view old.disk) (record old.state { want = want }) (view old.disk)
      → ((records : List Batch) → StandsFor tells records old.state (view old.disk)
      → StandsFor tells records (record old.state { want = want }) (view old.disk))
      → Lasts tells view old (record old { state = record old.state { want = want } })
  lasts_beside old want comes keeps = record {
    comes = comes;
    setting = record { wal = refl; base = refl; threshold = refl; next = refl; end = refl };
    acked = omega arith;
    harmed = λ harmed. inl harmed;
    smooth = λ low smooth. inl (record { lives = smooth.lives; few = smooth.few; segments = smooth.segments });
    covers = λ start covered. covered;
    unstalled = λ low still. inl (record { left = still.left; waiting = still.waiting });
    hangs = omega arith;
    keeps = keeps;
    passes = passes_still tells old.state (record old.state { want = want }) (view old.disk) refl refl refl;
    goes_on = goes_on_from (view old.disk);
  }

  pub lasts_none : (old : JournalView Disk) → Lasts tells view old old
  lasts_none old = lasts_beside old old.state.want at_start (λ records stands. stands)

  pub lasts_further : (old mid new : JournalView Disk) → Lasts tells view old mid → Lasts tells view mid new → Lasts tells view old new
  lasts_further old mid new one two = record {
    comes = comes_further one.comes two.comes;
    setting = end_further old.state mid.state new.state one.setting two.setting;
    acked = omega (arith, one.acked, two.acked);
    harmed = λ harmed. elim (two.harmed harmed) [
      | inl was ↦ elim (one.harmed was) [
        | inl harmed_first ↦ inl harmed_first
        | inr rose ↦ inr
            (rose_before (view old.disk) (view mid.disk) (view new.disk) one.goes_on two.goes_on rose)
      ]
      | inr rose ↦ inr (rose_after (view old.disk) (view mid.disk) (view new.disk) one.goes_on rose)
    ];
    smooth = λ low smooth. elim (one.smooth low smooth) [
      | inl mid_smooth ↦ elim (two.smooth (omega (arith, low, one.setting.threshold)) mid_smooth) [
        | inl now ↦ inl now
        | inr (inl rose) ↦ inr (inl (rose_after (view old.disk) (view mid.disk) (view new.disk) one.goes_on rose))
        | inr (inr fell) ↦ inr (inr (fell_after (view old.disk) (view mid.disk) (view new.disk) one.goes_on fell))
      ]
      | inr (inl rose) ↦ inr (inl (rose_before (view old.disk) (view mid.disk) (view new.disk) one.goes_on two.goes_on rose))
      | inr (inr fell) ↦ inr (inr (fell_before (view old.disk) (view mid.disk) (view new.disk) two.goes_on fell))
    ];
    covers = λ start covered. two.covers start (one.covers start covered);
    unstalled = λ low still. elim (one.unstalled low still) [
      | inl mid_still ↦ elim (two.unstalled (omega (arith, low, one.setting.threshold)) mid_still) [
        | inl now ↦ inl now
        | inr fell ↦ inr (fell_after (view old.disk) (view mid.disk) (view new.disk) one.goes_on fell)
      ]
      | inr fell ↦ inr (fell_before (view old.disk) (view mid.disk) (view new.disk) two.goes_on fell)
    ];
    hangs = omega (arith, one.hangs, two.hangs);
    keeps = λ records stands. two.keeps records (one.keeps records stands);
    passes = passes_further tells old.state mid.state new.state (view old.disk) (view mid.disk) (view new.disk) one.keeps two.goes_on one.passes two.passes;
    goes_on = goes_on_further (view old.disk) (view mid.disk) (view new.disk) one.goes_on two.goes_on;
  }

  -- The last step is idle, or ends with a fault.
  pub drained : (old mid new : JournalView Disk) (step : Result Step JournalFault) (answer : Result Unit JournalFault)
      → step ≡ last_answer answer → StepsOn old.state (view old.disk) mid.state (view mid.disk) → mid.state.want ≡ old.state.want
      → Lasts tells view old mid → StepsBy mid.state new.state (view mid.disk) (view new.disk) step → new.state.want ≡ mid.state.want
      → Lasts tells view mid new → OnOk answer (IsIdle new.state) → IfErr answer (IsMarked new.state) → Drains tells view old new answer
  drained old mid new step answer is steps want one by wanted two rests marked = record {
    mid = mid.state;
    v = (view mid.disk);
    steps = steps;
    last = subst (StepsBy mid.state new.state (view mid.disk) (view new.disk)) is by;
    want = wanted ∙ want;
    lasts = lasts_further old mid new one two;
    idle = rests;
    marked = marked;
  }

  -- The last step does not move: it is idle, has waited, or ends with a fault.
  pub moved_to : (old mid new : JournalView Disk) (answer : Result Step JournalFault)
      → MovesOn old.state (view old.disk) mid.state (view mid.disk) → mid.state.want ≡ old.state.want → Lasts tells view old mid
      → StepsBy mid.state new.state (view mid.disk) (view new.disk) answer
      → new.state.want ≡ mid.state.want → Lasts tells view mid new → answer ≢ Ok steps.Moved → (answer ≡ Ok steps.Idle → IsIdle new.state)
      → (answer ≡ Ok steps.Waited → PollsFell (view mid.disk) (view new.disk)) → IfErr answer (IsMarked new.state)
      → Moves tells view old new answer
  moved_to old mid new answer moves want one by wanted two ends rests waited marked = record {
    settles = record { mid = mid.state; v = (view mid.disk); moves = moves; last = by; ends = ends };
    want = wanted ∙ want;
    lasts = lasts_further old mid new one two;
    idle = rests;
    waited = λ is. fell_after (view old.disk) (view mid.disk) (view new.disk) one.goes_on (waited is);
    marked = marked;
  }

-- ---- a closing

-- a journal of which all records are to be synced
abbrev pub asking : {Disk : Type 0} → JournalView Disk → JournalView Disk
asking old = record old { state = record old.state { want = len old.state } }

pub records_are : (tells : Bool) (records : List Batch) (state : State) (v : DiskView) → StandsFor tells records state v → len state ≡ length records
records_are tells records state v stands = omega (arith, stands.queue.start, ap length stands.queue.holds, length-drop state.queue.start records)

pub asking_stands : (tells : Bool) (records : List Batch) (state : State) (v : DiskView) → StandsFor tells records state v
    → StandsFor tells records (record state { want = len state }) v
asking_stands tells records state v stands = record {
  named = stands.named;
  numbered = stands.numbered;
  spelled = stands.spelled;
  next = stands.next;
  queue = stands.queue;
  queued = stands.queued;
  want = omega (arith, records_are tells records state v stands);
  few = stands.few;
  joined = stands.joined;
  fit = stands.fit;
  alone = stands.alone;
  fresh = stands.fresh;
}

wants_synced : (state : State) (ws : List Writer) → acked state < state.want → WantsMore state ws
wants_synced state [] less = tt
wants_synced state (w ∷ []) less = inr (inr less)
wants_synced state (w ∷ v ∷ ws) less = wants_synced state (v ∷ ws) less

-- Where all records are to be synced and there is no work, all are.
all_acked : (tells : Bool) (records : List Batch) (state : State) (v : DiskView) → StandsFor tells records state v → state.want ≡ len state
    → IsIdle state → acked state ≡ len state
all_acked tells records state v stands all rests = elim (dec_lt (acked state) (len state)) [
  | yes less ↦ absurd (rests.no_work (less, wants_synced state state.segments (omega (arith, less, all))))
  | no not_less ↦ omega (arith, not_less, acked_within tells records state v stands, records_are tells records state v stands)
]

-- An operation in flight is none of a writer that is not busy.
not_its : (tells : Bool) (records : List Batch) (v : DiskView) (id : OpId) (f : Flight) (w : Writer) → v.in_flight id ≡ Some f
    → Fits tells records w v → (IsBusy w.phase → ⊥) → place_of_writer w ≢ f.place
not_its tells records v id f w flies fits rests e = go w.phase fits.flight rests
  where
    go : (phase : Phase) → HasFlight phase (place_of_writer w) v → (IsBusy phase → ⊥) → ⊥
    go New free not_busy = free id f flies (sym e)
    go (InFlight operation at) free not_busy = not_busy tt
    go Idle free not_busy = free id f flies (sym e)
    go Broken free not_busy = free id f flies (sym e)

none_flies : (tells : Bool) (records : List Batch) (state : State) (v : DiskView) → StandsFor tells records state v
    → NoneBusy state.segments → NothingInFlight v
none_flies tells records state v stands rests id = go (v.in_flight id) refl
  where
    go : (flight : Option Flight) → v.in_flight id ≡ flight → v.in_flight id ≡ None
    go None is = is
    go (Some f) is =
        absurd (not_theirs state.segments f.place
        (all_from (λ (w : Writer). Fits tells records w v) (λ (w : Writer). IsBusy w.phase → ⊥)
        (λ (w : Writer). place_of_writer w ≢ f.place) state.segments
        (λ w fits not_busy. not_its tells records v id f w is fits not_busy) stands.fit rests)
        (stands.alone id f is))

module _ {Disk : Type 0} (tells : Bool) (view : Disk → DiskView) (old new : JournalView Disk) (answer : Result Unit JournalFault)
    (drains : Drains tells view (asking old) new answer) where
  pub closed_lasts : Lasts tells view old new
  closed_lasts = lasts_further tells view old (asking old) new (lasts_beside tells view old (len old.state)
      (asked old.state (view old.disk) at_start) (λ records. asking_stands tells records old.state (view old.disk))) drains.lasts

  pub closed_synced : Stands tells old.state (view old.disk) → OnOk answer (acked new.state ≡ len new.state)
  closed_synced stands = on_ok_weaker answer (λ rests. all_acked tells stands.0 new.state (view new.disk)
      (closed_lasts.keeps stands.0 stands.1) (drains.want ∙ sym drains.lasts.setting.end) rests) drains.idle

  pub closed_rests : Stands tells old.state (view old.disk) → OnOk answer (NothingInFlight (view new.disk))
  closed_rests stands = on_ok_weaker answer (λ rests. none_flies tells stands.0 new.state (view new.disk)
      (closed_lasts.keeps stands.0 stands.1) rests.rests) drains.idle

  -- A dead journal stays as it was, so it is not idle then.
  pub closed_lives : (old.state.dead ≢ None → new.state.dead ≡ old.state.dead) → OnOk answer (old.state.dead ≡ None)
  closed_lives still = on_ok_weaker answer (λ rests. go rests.lives old.state.dead refl) drains.idle
    where
      go : new.state.dead ≡ None → (mark : Option DeadMark) → old.state.dead ≡ mark → old.state.dead ≡ None
      go lives None is = is
      go lives (Some mark) is = sym (still (λ none. let clash : Some mark ≡ None = sym is ∙ none in cc)) ∙ lives
