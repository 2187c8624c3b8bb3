-- What a step does to the pending polls, those that were and those that may come: none more than before.
use Rattle.std.proofs.Common.{◌≡◌, ◌⊎◌, inl, inr, ℕ, ◌+◌, ◌*◌, ◌≤◌, Bool, true, false, cond, List, [], ◌∷◌, ◌++◌, Option, Some, Result, ap, sym, subst, ◌∙◌, refl, arith}
use Rattle.disk_face.specs.declared.Progress.{Progress}
use Rattle.disk_face.specs.declared.Progress.TheVariants.{Pending, Done, Failed}
use Rattle.disk_face.specs.View.{DiskView}
use Rattle.stall_monitor.specs.Verdicts.{IsToSwitch}
use Rattle.log_writer.specs.Writer.{Writer}
use Rattle.log_writer.specs.Steps.{after_answer}
use Rattle.failover_writer.specs.declared.fault.JournalFault.{JournalFault}
use Rattle.failover_writer.specs.declared.fault.Step.{Step}
use Rattle.failover_writer.specs.State.{State, is_broken}
use Rattle.failover_writer.specs.Stepping.{PollsFirst, Polls, nothing_begun, asked, left_behind, BeginsNext, Verdict, ActsAfterPolls, first, none_to_begin, switches, starts, stays, StepRule, was_dead, idle, dies, goes, short}
use Rattle.failover_writer.specs.Stepping as stepping
use Rattle.failover_writer.specs.Answered.{pending_count, StepsBy}
use Rattle.failover_writer.specs.Remaining.{waited_on_current, pending_in_all}
use Rattle.failover_writer.proofs.Accounted.{left_last}
use Rattle.failover_writer.proofs.StepRule.{current_then}

-- `threshold` for each segment that was left by a stall, and those that the current one has waited
abbrev held : State → ℕ
held state = state.left_by_stall * state.threshold + waited_on_current state.segments

waited_last : (earlier : List Writer) (w : Writer) → waited_on_current (earlier ++ w ∷ []) ≡ w.waiting
waited_last [] w = refl
waited_last (x ∷ []) w = refl
waited_last (x ∷ y ∷ earlier) w = waited_last (y ∷ earlier) w

-- ---- the polls

-- The poll of the last of them, or of one before it.
first_waits : {ws : List Writer} {answer : Option Progress} {ws' : List Writer} → PollsFirst ws answer ws'
    → waited_on_current ws' ≤ waited_on_current ws + pending_count answer
first_waits (stepping.none ws rest) = omega arith
first_waits (stepping.polled front w back operation id answer rest phase) = go front back answer
  where
    one : (a : Progress) → (after_answer operation a w).waiting ≤ w.waiting + pending_count (Some a)
    one Pending = omega arith
    one Done = omega arith
    one Failed = omega arith

    go : (front back : List Writer) (a : Progress)
        → waited_on_current (front ++ after_answer operation a w ∷ back) ≤ waited_on_current (front ++ w ∷ back) + pending_count (Some a)
    go [] [] a = one a
    go [] (x ∷ back) a = omega arith
    go (y ∷ []) [] a = one a
    go (y ∷ []) (x ∷ back) a = omega arith
    go (y ∷ z ∷ front) back a = go (z ∷ front) back a

polls_hold : {old polled : State} {one other : Option Progress} → Polls old one other polled
    → held polled ≤ held old + (pending_count one + pending_count other)
polls_hold (nothing_begun none) = omega arith
polls_hold (asked earlier current one other earlier' current' are early late) = omega (
  arith,
  first_waits late,
  waited_last earlier current,
  waited_last earlier' current',
  ap waited_on_current are,
)

-- ---- what is begun or started then

-- The segment that is left was broken, or has waited for as long as the threshold says.
leaves_waited : (state : State) → Verdict IsToSwitch state → left_behind state.segments * state.threshold ≤ waited_on_current state.segments
leaves_waited state verdict = go (is_broken verdict.current) refl verdict.says.2
  where
    left : left_behind state.segments ≡ cond (is_broken verdict.current) 0 1
    left = ap left_behind verdict.segments_are ∙ left_last verdict.earlier verdict.current

    waited : waited_on_current state.segments ≡ verdict.current.waiting
    waited = ap waited_on_current verdict.segments_are ∙ waited_last verdict.earlier verdict.current

    go : (b : Bool) → is_broken verdict.current ≡ b → (is_broken verdict.current ≡ true) ⊎ (state.threshold ≤ verdict.current.waiting)
        → left_behind state.segments * state.threshold ≤ waited_on_current state.segments
    go true is stuck =
        let none : left_behind state.segments ≡ 0 = left ∙ ap {B = ℕ} (λ (b : Bool). cond b 0 1) is in
        subst (λ (n : ℕ). n * state.threshold ≤ waited_on_current state.segments) (sym none) (omega arith)
    go false is (inl broken) = absurd (let clash : true ≡ false = sym broken ∙ is in cc)
    go false is (inr hangs) =
        let one : left_behind state.segments ≡ 1 = left ∙ ap {B = ℕ} (λ (b : Bool). cond b 0 1) is in
        subst (λ (n : ℕ). n * state.threshold ≤ waited_on_current state.segments) (sym one) (omega (arith, hangs, waited))

begins_held : (old new : State) → BeginsNext old new → left_behind old.segments * old.threshold ≤ waited_on_current old.segments → held new ≤ held old
begins_held old new begins waited = subst (λ (s : State). held s ≤ held old) (sym begins.new_is) (omega (
  arith,
  waited,
  waited_last old.segments begins.writer,
  begins.fresh.6,
))

goes_held : {polled started : State} → ActsAfterPolls polled started → held started ≤ held polled
goes_held {polled} (first new none behind begins) = begins_held polled new begins
    (subst (λ (ws : List Writer). left_behind ws * polled.threshold ≤ waited_on_current ws) (sym none) (omega arith))
goes_held (none_to_begin none rests) = omega arith
goes_held {polled} (switches new verdict begins fresh) = begins_held polled new begins (leaves_waited polled verdict)
goes_held {polled} (starts new verdict behind next fresh) = subst (λ (s : State). held s ≤ held polled) (sym next.new_is)
    (omega (arith, waited_last next.earlier (current_then polled new next)))
goes_held (stays verdict rests) = omega arith

-- ---- the step

holds_then : {old new : State} {one other : Option Progress} {answer : Result Step JournalFault} → StepRule old one other new answer
    → held new ≤ held old + (pending_count one + pending_count other)
holds_then (was_dead side count dead) = omega arith
holds_then (idle lives rests none) = omega arith
holds_then (dies one other polled new side count up polls end) = omega (arith, polls_hold polls, ap (λ (s : State). held s) end.new_is)
holds_then (goes one other polled started new up polls went released) =
    omega (arith, polls_hold polls, goes_held went, ap (λ (s : State). held s) released.new_is)
holds_then (short one other polled up polls lives) = polls_hold polls

-- Each pending answer took one of the polls left.
pub hangs_of : (old new : State) (before after : DiskView) (answer : Result Step JournalFault) → StepsBy old new before after answer
    → pending_in_all new after ≤ pending_in_all old before
hangs_of old new before after answer by = omega (arith, holds_then by.rule, by.taken)
