-- What a step counts: its polls that failed, and the segments that it leaves though they are not broken.
use Rattle.std.proofs.Common.{◌≡◌, ◌⊎◌, inl, inr, ℕ, ◌+◌, ◌≤◌, Bool, true, cond, List, [], ◌∷◌, ◌++◌, Option, Some, Result, ap, sym, subst, ◌∙◌, refl, arith}
use Rattle.std.specs.Prelude.{count_by}
use Rattle.std.specs.List.{AllByRecursion}
use Rattle.disk_face.specs.declared.Progress.{Progress}
use Rattle.disk_face.specs.declared.Progress.TheVariants.{Pending, Done, Failed}
use Rattle.disk_face.specs.View.{DiskView}
use Rattle.disk_face.specs.Calls.{GoesOn}
use Rattle.stall_monitor.specs.Verdicts.{IsToSwitch}
use Rattle.log_writer.specs.Writer.{Writer}
use Rattle.log_writer.specs.Steps.{after_answer}
use Rattle.failover_writer.specs.declared.fault.JournalFault.{JournalFault}
use Rattle.failover_writer.specs.declared.fault.Step.{Step}
use Rattle.failover_writer.specs.State.{State, is_broken, phase_is_broken, broken_count}
use Rattle.failover_writer.specs.Stepping.{PollsFirst, Polls, nothing_begun, asked, left_behind, BeginsNext, Releases, Verdict, ActsAfterPolls, first, none_to_begin, switches, starts, stays, StepRule, was_dead, idle, dies, goes, short}
use Rattle.failover_writer.specs.Stepping as stepping
use Rattle.failover_writer.specs.Answered.{IsTold, PollsFell, failed_count, RoseBy, StepsBy, IsUnstalled}
use Rattle.failover_writer.proofs.Accounted.{left_last}
use Rattle.failover_writer.proofs.Covers.{rose_by_more, rose_by_less}
use Rattle.failover_writer.proofs.Lists.{all_append, all_front, all_back}
use Rattle.failover_writer.proofs.Segments.{count_push}
use Rattle.failover_writer.proofs.PollsAt.{count_same, count_more}
use Rattle.failover_writer.proofs.StepRule.{goes_whole, current_then, polls_alive}

-- ---- failures

first_fails : {ws : List Writer} {answer : Option Progress} {ws' : List Writer} → PollsFirst ws answer ws'
    → count_by is_broken ws' ≤ count_by is_broken ws + failed_count answer
first_fails (stepping.none ws rest) = omega arith
first_fails (stepping.polled front w back operation id answer rest phase) = go answer
  where
    go : (a : Progress) → count_by is_broken (front ++ after_answer operation a w ∷ back) ≤ count_by is_broken (front ++ w ∷ back) + failed_count (Some a)
    go Pending = omega (arith, count_same front w (after_answer operation Pending w) back (ap phase_is_broken phase) (ap phase_is_broken phase))
    go Done = omega (arith, count_same front w (after_answer operation Done w) back (ap phase_is_broken phase) refl)
    go Failed = omega (arith, count_more front w (after_answer operation Failed w) back (ap phase_is_broken phase) refl)

polls_fail : {old polled : State} {one other : Option Progress} → Polls old one other polled
    → broken_count polled ≤ broken_count old + (failed_count one + failed_count other)
polls_fail (nothing_begun none) = omega arith
polls_fail {old} (asked earlier current one other earlier' current' are early late) = omega (
  arith,
  first_fails early,
  first_fails late,
  count_push is_broken earlier current,
  count_push is_broken earlier' current',
  ap (λ (ws : List Writer). count_by is_broken ws) are,
)

fails_then : {old new : State} {one other : Option Progress} {answer : Result Step JournalFault} → StepRule old one other new answer
    → broken_count new ≤ broken_count old + (failed_count one + failed_count other)
fails_then (was_dead side count dead) = omega arith
fails_then (idle lives rests none) = omega arith
fails_then (dies one other polled new side count up polls end) = omega (arith, polls_fail polls, ap (λ (s : State). broken_count s) end.new_is)
fails_then (goes one other polled started new up polls went released) =
    omega (arith, polls_fail polls, (goes_whole went).0, ap (λ (s : State). broken_count s) released.new_is)
fails_then (short one other polled up polls lives) = polls_fail polls

-- Faults that covered all failures since a moment cover them still.
pub covers_of : (old new : State) (before after : DiskView) (answer : Result Step JournalFault) → StepsBy old new before after answer
    → GoesOn before after → (start : DiskView) → RoseBy (broken_count old) start before → RoseBy (broken_count new) start after
covers_of old new before after answer by on start covered =
    let count = failed_count by.one + failed_count by.other in
    rose_by_less (broken_count old + count) (broken_count new) start after (fails_then by.rule)
    (rose_by_more (broken_count old) count start before after covered by.counted on)

-- ---- stalls

abbrev HasNotWaited : Writer → Type 0
HasNotWaited w = w.waiting ≡ 0

still_put : (front : List Writer) (old new : Writer) (back : List Writer) → AllByRecursion HasNotWaited (front ++ old ∷ back)
    → HasNotWaited new → AllByRecursion HasNotWaited (front ++ new ∷ back)
still_put front old new back all here =
    all_append HasNotWaited front (new ∷ back) (all_front HasNotWaited front (old ∷ back) all) (here, (all_back HasNotWaited front (old ∷ back) all).1)

first_still : {ws : List Writer} {answer : Option Progress} {ws' : List Writer} (before after : DiskView) → PollsFirst ws answer ws'
    → IsTold before after answer → AllByRecursion HasNotWaited ws → AllByRecursion HasNotWaited ws' ⊎ PollsFell before after
first_still before after (stepping.none ws rest) told all = inl all
first_still before after (stepping.polled front w back operation id answer rest phase) told all = go answer told
  where
    go : (a : Progress) → IsTold before after (Some a) → AllByRecursion HasNotWaited (front ++ after_answer operation a w ∷ back) ⊎ PollsFell before after
    go Pending fell = inr fell
    go Done done = inl (still_put front w (after_answer operation Done w) back all refl)
    go Failed rose = inl (still_put front w (after_answer operation Failed w) back all (all_back HasNotWaited front (w ∷ back) all).0)

polls_still : {old polled : State} {one other : Option Progress} (before after : DiskView) → Polls old one other polled
    → IsTold before after one → IsTold before after other → IsUnstalled old → IsUnstalled polled ⊎ PollsFell before after
polls_still before after (nothing_begun none) one_told other_told still = inl still
polls_still {old} before after (asked earlier current one other earlier' current' are early late) one_told other_told still =
    let all : AllByRecursion HasNotWaited (earlier ++ current ∷ []) = subst (λ (ws : List Writer). AllByRecursion HasNotWaited ws) are still.waiting in
    elim (first_still before after early one_told (all_front HasNotWaited earlier (current ∷ []) all)) [
      | inr fell ↦ inr fell
      | inl still_early ↦ elim (first_still before after late other_told (all_back HasNotWaited earlier (current ∷ []) all)) [
        | inr fell ↦ inr fell
        | inl still_late ↦ inl (record { left = still.left; waiting = all_append HasNotWaited earlier' (current' ∷ []) still_early still_late })
      ]
    ]

-- A journal that has waited for nothing moves on from broken segments alone.
leaves_none : (state : State) → 1 ≤ state.threshold → IsUnstalled state → Verdict IsToSwitch state → left_behind state.segments ≡ 0
leaves_none state least still verdict =
    ap left_behind verdict.segments_are ∙ left_last verdict.earlier verdict.current
    ∙ ap {B = ℕ} (λ (b : Bool). cond b 0 1) broken
  where
    here : verdict.current.waiting ≡ 0
    here = (all_back HasNotWaited verdict.earlier (verdict.current ∷ [])
        (subst (λ (ws : List Writer). AllByRecursion HasNotWaited ws) verdict.segments_are still.waiting)).0

    broken : is_broken verdict.current ≡ true
    broken = elim verdict.says.2 [ inl is ↦ is | inr hangs ↦ absurd (omega (arith, least, hangs, here)) ]

begins_still : (polled new : State) → BeginsNext polled new → left_behind polled.segments ≡ 0 → IsUnstalled polled → IsUnstalled new
begins_still polled new begins none still = subst (λ (s : State). IsUnstalled s) (sym begins.new_is) (record {
  left = omega (arith, still.left, none);
  waiting = all_append HasNotWaited polled.segments (begins.writer ∷ []) still.waiting (begins.fresh.6, tt);
})

goes_still : {polled started : State} → ActsAfterPolls polled started → 1 ≤ polled.threshold → IsUnstalled polled → IsUnstalled started
goes_still {polled} (first new none behind begins) least still = begins_still polled new begins (ap left_behind none) still
goes_still (none_to_begin none rests) least still = still
goes_still {polled} (switches new verdict begins fresh) least still = begins_still polled new begins (leaves_none polled least still verdict) still
goes_still {polled} (starts new verdict behind next fresh) least still = subst (λ (s : State). IsUnstalled s) (sym next.new_is) (record {
  left = still.left;
  waiting = still_put next.earlier next.current (current_then polled new next) []
      (subst (λ (ws : List Writer). AllByRecursion HasNotWaited ws) next.segments_are still.waiting) refl;
})
goes_still (stays verdict rests) least still = still

still_then : {old new : State} {one other : Option Progress} {answer : Result Step JournalFault} (before after : DiskView)
    → StepRule old one other new answer → IsTold before after one → IsTold before after other → 1 ≤ old.threshold
    → IsUnstalled old → IsUnstalled new ⊎ PollsFell before after
still_then before after (was_dead side count dead) one_told other_told least still = inl still
still_then before after (idle lives rests none) one_told other_told least still = inl still
still_then before after (dies one other polled new side count up polls end) one_told other_told least still = elim
    (polls_still before after polls one_told other_told still) [
      | inl here ↦ inl (subst (λ (s : State). IsUnstalled s) (sym end.new_is) (record { left = here.left; waiting = here.waiting }))
      | inr fell ↦ inr fell
    ]
still_then before after (goes one other polled started new up polls went released) one_told other_told least still = elim
    (polls_still before after polls one_told other_told still) [
      | inl here ↦
          let gone = goes_still went (omega (arith, least, (polls_alive polls).1)) here in
          inl (subst (λ (s : State). IsUnstalled s) (sym released.new_is) (record { left = gone.left; waiting = gone.waiting }))
      | inr fell ↦ inr fell
    ]
still_then before after (short one other polled up polls lives) one_told other_told least still = polls_still before after polls one_told other_told still

-- None is left by a stall, but where a poll of the step was pending.
pub unstalled_of : (old new : State) (before after : DiskView) (answer : Result Step JournalFault) → StepsBy old new before after answer
    → 1 ≤ old.threshold → IsUnstalled old → IsUnstalled new ⊎ PollsFell before after
unstalled_of old new before after answer by least still = still_then before after by.rule by.one_told by.other_told least still
