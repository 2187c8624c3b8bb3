-- What the monitor says of the current segment, and so what a step does by the rule of the step.
use Rattle.std.proofs.Common.{◌≡◌, ℕ, ◌+◌, ◌-◌, Bool, List, [], ◌∷◌, length, take, get_or, Option, Some, None, Result, Ok, Err, ap, sym, subst, ◌∙◌, ◌++◌, refl, arith, cond, append_assoc}
use Rattle.std.specs.Prelude.{◌↔◌, ◌||◌, slice_get}
use Rattle.std.proofs.lemmas.List.{length-append}
use Rattle.std.proofs.lemmas.Option.{slice_get-get_or}
use Rattle.failover_writer.specs.Answered.{failed_count}
use Rattle.failover_writer.proofs.Covers.{rose_by_none, rose_by_more, rose_by_as}
use Rattle.failover_writer.proofs.Lists.{last_split}
use Rattle.disk_face.specs.declared.Side.{Side}
use Rattle.disk_face.specs.declared.Progress.{Progress}
use Rattle.disk_face.specs.declared.Progress.TheVariants.{Pending, Done, Failed}
use Rattle.disk_face.specs.View.{Call, Makes, DiskView}
use Rattle.disk_face.specs.Calls as calls
use Rattle.batch_repr.specs.declared.batch.Batch.{Batch}
use Rattle.stall_monitor.specs.declared.verdict.MonitorView.{MonitorView}
use Rattle.stall_monitor.specs.declared.verdict.Verdict.{Verdict as Said}
use Rattle.stall_monitor.specs.declared.verdict.Verdict.TheVariants as verdicts
use Rattle.stall_monitor.specs.Verdicts.{IsToDie, IsToSwitch}
use Rattle.log_writer.specs.Writer.{Writer}
use Rattle.failover_writer.specs.declared.fault.JournalFault.{JournalFault}
use Rattle.failover_writer.specs.declared.fault.JournalFault.TheVariants as faults
use Rattle.failover_writer.specs.declared.fault.Step.{Step}
use Rattle.failover_writer.specs.declared.fault.Step.TheVariants as steps
use Rattle.failover_writer.specs.State.{State, broken_count}
use Rattle.failover_writer.specs.Ranges.{side_at, AreJoined, StandsFor}
use Rattle.failover_writer.specs.Stepping.{shown_to_monitor, Verdict, IsToStay, starts, stays, Dies, IsUp, Releases, StepRule, dies, goes, short, moved_or_waited}
use Rattle.failover_writer.specs.Stepping.{calls_of_polls, calls_of_act, calls_of}
use Rattle.failover_writer.specs.Answered.{IsTold, StepsBy}
use Rattle.failover_writer.specs.Remaining.{polls_left}
use Rattle.failover_writer.specs.Moves.{MayStartNext, started, nothing, ActsOnDisk, PollsAll, was_pending, EndsGoing}
use Rattle.failover_writer.proofs.Segments.{last_is}
use Rattle.failover_writer.proofs.StartsNext.{last_same}

pub empty_from : (ws : List Writer) → slice_get ws (length ws - 1) ≡ None → ws ≡ []
empty_from [] e = refl
empty_from (w ∷ ws) e = let some = slice_get-get_or (w ∷ ws) (length (w ∷ ws) - 1) w (omega arith) in let clash : Some
    (get_or (w ∷ ws) (length (w ∷ ws) - 1) w) ≡ None = sym some ∙ e in cc

-- ---- the verdict

pub verdict_from : (Says : MonitorView → Type 0) (state : State) (view : MonitorView) (current : Writer)
    → slice_get state.segments (length state.segments - 1) ≡ Some current → view ≡ shown_to_monitor state current → Says view
    → Verdict Says state
verdict_from Says state view current at is says = record {
  earlier = take (length state.segments - 1) state.segments;
  current = current;
  segments_are = last_split state.segments current at;
  says = subst Says is says;
}

pub stays_where : (said : Said) (view : MonitorView) → (said ≡ verdicts.Dead) ↔ IsToDie view → (said ≡ verdicts.Switch) ↔ IsToSwitch view
    → said ≡ verdicts.Stay → IsToStay view
stays_where said view dead switch is = (
  λ die. let clash : verdicts.Stay ≡ verdicts.Dead = sym is ∙ dead.1 die in cc,
  λ leave. let clash : verdicts.Stay ≡ verdicts.Switch = sym is ∙ switch.1 leave in cc,
)

pub went_on : (state new : State) (before after : DiskView) → Verdict IsToStay state → MayStartNext state before after new
    → ActsOnDisk state new before after
went_on state new before after verdict (started then behind next fresh asks) =
    record { acts = starts then verdict behind next fresh; asks = asks }
went_on state new before after verdict (nothing none asks) = record { acts = stays verdict none; asks = asks }

-- Where the monitor does not say so of the current segment, the journal is not to die; and where there is none, it is not.
pub not_to_die : (state : State) (view : MonitorView) (current : Writer) → slice_get state.segments (length state.segments - 1) ≡ Some current
    → view ≡ shown_to_monitor state current → (IsToDie view → ⊥) → Verdict IsToDie state → ⊥
not_to_die state view current at is lives verdict =
    let same : verdict.current ≡ current =
    last_same verdict.earlier (take (length state.segments - 1) state.segments) verdict.current current
    (sym verdict.segments_are ∙ last_split state.segments current at) in
    lives (subst IsToDie (sym is) (subst (λ (w : Writer). IsToDie (shown_to_monitor state w)) same verdict.says))

pub none_to_die : (state : State) → state.segments ≡ [] → Verdict IsToDie state → ⊥
none_to_die state empty verdict =
    let none : [] ≡ verdict.earlier ++ verdict.current ∷ [] = sym empty ∙ verdict.segments_are in
    omega (arith, ap (λ (ws : List Writer). length ws) none, length-append verdict.earlier (verdict.current ∷ []))

pub dies_now : (tells : Bool) (records : List Batch) (state : State) (v : DiskView) (side : Side) (count : ℕ)
    → StandsFor tells records state v → (verdict : Verdict IsToDie state)
    → side ≡ side_at (length state.segments - 1) → count ≡ broken_count state
    → Dies state (record state { dead = Some (record { side = side; faults = count }) }) side count
dies_now tells records state v side count stands verdict side_is count_is =
    let size : length state.segments - 1 ≡ 0 + length verdict.earlier = omega
    (arith, ap length verdict.segments_are, length-append verdict.earlier (verdict.current ∷ [])) in
    record {
      verdict = verdict;
      side_is = side_is ∙ ap side_at size ∙ sym (last_is state.wal 0 0 verdict.earlier verdict.current
          (subst (AreJoined state.wal 0 0) verdict.segments_are stands.joined)).0.side;
      faults_are = count_is;
      new_is = refl;
    }

-- ---- the step

-- What an answer tells of the disk, it tells after later calls too.
told_later : (before between after : DiskView) (answer : Option Progress) → calls.GoesOn between after → IsTold before between answer
    → IsTold before after answer
told_later before between after None onward told = tt
told_later before between after (Some Pending) onward told = (told.0, omega (arith, told.1, onward.polls told.0))
told_later before between after (Some Done) onward told = tt
told_later before between after (Some Failed) onward told = (told.0, omega (arith, told.1, onward.faults told.0))

-- A step whose polls were told is one by its rule.
steps_by : (old polled new : State) (before between after : DiskView) (waited : Bool) (answer : Result Step JournalFault)
    → calls.GoesOn between after → polls_left after ≡ polls_left between
    → (polls : PollsAll old polled before between waited)
    → (rule : StepRule old polls.one polls.other new answer) → Makes (calls_of rule) before after → StepsBy old new before after answer
steps_by old polled new before between after waited answer onward stalls polls rule asks = record {
  one = polls.one;
  other = polls.other;
  rule = rule;
  one_told = told_later before between after polls.one onward polls.one_told;
  other_told = told_later before between after polls.other onward polls.other_told;
  taken = omega (arith, stalls, polls.taken);
  counted =
      let count = failed_count polls.one + failed_count polls.other in
      rose_by_as (count + 0) count before after (omega arith)
      (rose_by_more count 0 before between after polls.counted (rose_by_none between after onward) onward);
  asks = asks;
}

pub rule_ended : (old polled new : State) (before between after : DiskView) (waited : Bool) (fault : JournalFault) → IsUp old
    → calls.GoesOn between after → polls_left after ≡ polls_left between → Makes [] between after
    → PollsAll old polled before between waited → EndsGoing polled new fault
    → StepsBy old new before after (Err fault)
rule_ended old polled new before between after waited (faults.Dead side count) up onward stalls quiet polls ends =
    steps_by old polled new before between after waited (Err (faults.Dead side count)) onward stalls polls
    (dies polls.one polls.other polled new side count up polls.polls ends) (quiet ∙ polls.asks)
rule_ended old polled new before between after waited faults.NoMemory up onward stalls quiet polls (same, lives) =
    let rule =
    subst (λ (s : State). (rule : StepRule old polls.one polls.other s (Err faults.NoMemory)) × (calls_of rule ≡ calls_of_polls polls.polls)) (sym same)
    (short polls.one polls.other polled up polls.polls lives, refl) in
    steps_by old polled new before between after waited (Err faults.NoMemory) onward stalls polls rule.0
    (subst (λ (made : List Call). Makes made before after) (sym rule.1) (quiet ∙ polls.asks))

answered : (one other : Option Progress) (waited : Bool) → waited ≡ (was_pending one || was_pending other)
    → moved_or_waited one other ≡ cond waited steps.Waited steps.Moved
answered one other waited is = go one other ∙ ap (λ (b : Bool). cond b steps.Waited steps.Moved) (sym is)
  where
    go : (one other : Option Progress) → moved_or_waited one other ≡ cond (was_pending one || was_pending other) steps.Waited steps.Moved
    go None None = refl
    go None (Some Pending) = refl
    go None (Some Done) = refl
    go None (Some Failed) = refl
    go (Some Pending) other = refl
    go (Some Done) None = refl
    go (Some Done) (Some Pending) = refl
    go (Some Done) (Some Done) = refl
    go (Some Done) (Some Failed) = refl
    go (Some Failed) None = refl
    go (Some Failed) (Some Pending) = refl
    go (Some Failed) (Some Done) = refl
    go (Some Failed) (Some Failed) = refl

-- The release at the end of a step leaves the disk as it is.
pub rule_went : (old polled going new : State) (before between after last : DiskView) (waited : Bool) → IsUp old
    → calls.GoesOn between after → polls_left after ≡ polls_left between → last ≡ after
    → PollsAll old polled before between waited → ActsOnDisk polled going between after → Releases going new
    → StepsBy old new before last (Ok (cond waited steps.Waited steps.Moved))
rule_went old polled going new before between after last waited up onward stalls still polls went releases =
    let made : List Call = calls_of_act went.acts ++ calls_of_polls polls.polls in
    let rule =
    subst (λ (s : Step). (rule : StepRule old polls.one polls.other new (Ok s)) × (calls_of rule ≡ made))
    (answered polls.one polls.other waited polls.pending_is)
    (goes polls.one polls.other polled going new up polls.polls went.acts releases, refl) in
    let makes : Makes made before last =
    ap (λ (v : DiskView). v.calls) still ∙ went.asks ∙ ap (λ (l : List Call). calls_of_act went.acts ++ l) polls.asks
    ∙ sym (append_assoc (calls_of_act went.acts) (calls_of_polls polls.polls) before.calls) in
    steps_by old polled new before between last waited (Ok (cond waited steps.Waited steps.Moved))
    (subst (calls.GoesOn between) (sym still) onward) (ap polls_left still ∙ stalls) polls rule.0
    (subst (λ (l : List Call). Makes l before last) (sym rule.1) makes)
