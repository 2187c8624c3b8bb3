-- What a step answers and what it leaves, from its rule and from what its polls tell of the disk.
use Rattle.std.proofs.Common.{◌≡◌, ◌≢◌, ◌⊎◌, inl, inr, ◌≤◌, true, false, List, [], ◌∷◌, ◌++◌, length, Option, Some, None, Result, Ok, ap, sym, subst, ◌∙◌, refl, arith}
use Rattle.std.specs.Prelude.{◌↔◌, IfErr, count_by}
use Rattle.std.specs.List.{AllByRecursion}
use Rattle.std.proofs.lemmas.List.{length-append}
use Rattle.disk_face.specs.declared.OpId.{OpId}
use Rattle.disk_face.specs.declared.Progress.{Progress}
use Rattle.disk_face.specs.declared.Progress.TheVariants.{Pending, Done, Failed}
use Rattle.disk_face.specs.View.{DiskView}
use Rattle.stall_monitor.specs.Verdicts.{IsToDie, IsToSwitch}
use Rattle.log_writer.specs.declared.phase.Operation.{Operation}
use Rattle.log_writer.specs.declared.phase.Operation.TheVariants.{Create}
use Rattle.log_writer.specs.declared.phase.Phase.{Phase}
use Rattle.log_writer.specs.declared.phase.Phase.TheVariants.{New, InFlight, Idle, Broken}
use Rattle.log_writer.specs.Writer.{Writer}
use Rattle.log_writer.specs.Steps.{after_answer, sent_with}
use Rattle.failover_writer.specs.declared.fault.JournalFault.{JournalFault}
use Rattle.failover_writer.specs.declared.fault.Step.{Step}
use Rattle.failover_writer.specs.declared.fault.Step.TheVariants as steps
use Rattle.failover_writer.specs.State.{State, len, is_broken, phase_is_broken, broken_count}
use Rattle.failover_writer.specs.Stepping.{PollsFirst, Polls, nothing_begun, asked, BeginsNext, StartsNext, Releases, moved_or_waited, Verdict, ActsAfterPolls, first, none_to_begin, switches, starts, stays, StepRule, was_dead, idle, dies, goes, short}
use Rattle.failover_writer.specs.Stepping as stepping
use Rattle.failover_writer.specs.Answered.{IsTold, FaultsRose, PollsFell, StepsBy, IsIdle, IsMarked, IsHarmed, IsSmoothSegment, IsSmooth}
use Rattle.failover_writer.proofs.Lists.{all_append, all_front, all_back}
use Rattle.failover_writer.proofs.Segments.{count_push}
use Rattle.failover_writer.proofs.PollsAt.{count_same}

-- ---- how it is answered

-- The step has waited, after a poll that was pending, or else moved.
waited_or_moved : (one other : Option Progress) → (((one ≡ Some Pending) ⊎ (other ≡ Some Pending))
    × (moved_or_waited one other ≡ steps.Waited)) ⊎ (moved_or_waited one other ≡ steps.Moved)
waited_or_moved None None = inr refl
waited_or_moved None (Some Pending) = inl (inr refl, refl)
waited_or_moved None (Some Done) = inr refl
waited_or_moved None (Some Failed) = inr refl
waited_or_moved (Some Pending) other = inl (inl refl, refl)
waited_or_moved (Some Done) None = inr refl
waited_or_moved (Some Done) (Some Pending) = inl (inr refl, refl)
waited_or_moved (Some Done) (Some Done) = inr refl
waited_or_moved (Some Done) (Some Failed) = inr refl
waited_or_moved (Some Failed) None = inr refl
waited_or_moved (Some Failed) (Some Pending) = inl (inr refl, refl)
waited_or_moved (Some Failed) (Some Done) = inr refl
waited_or_moved (Some Failed) (Some Failed) = inr refl

never_idle : (one other : Option Progress) → moved_or_waited one other ≡ steps.Idle → ⊥
never_idle one other e = elim (waited_or_moved one other) [
  | inl (polls, is) ↦ let clash : steps.Waited ≡ steps.Idle = sym is ∙ e in cc
  | inr is ↦ let clash : steps.Moved ≡ steps.Idle = sym is ∙ e in cc
]

idle_then : {old new : State} {one other : Option Progress} {answer : Result Step JournalFault} → StepRule old one other new answer
    → answer ≡ Ok steps.Idle → IsIdle old
idle_then (was_dead side count dead) e = absurd (cc)
idle_then (idle lives rests none) e = record { lives = lives; rests = rests; no_work = none }
idle_then (dies one other polled new side count up polls end) e = absurd (cc)
idle_then (goes one other polled started new up polls went released) e = absurd (never_idle one other (cc))
idle_then (short one other polled up polls lives) e = absurd (cc)

-- An idle journal is answered so, and stays as it is.
idle_stays : {old new : State} {one other : Option Progress} {answer : Result Step JournalFault} → StepRule old one other new answer
    → IsIdle old → (answer ≡ Ok steps.Idle) × (new ≡ old)
idle_stays (was_dead side count dead) rests = absurd (cc)
idle_stays (idle lives none no_work) rests = (refl, refl)
idle_stays (dies one other polled new side count up polls end) rests = absurd (rests.no_work (up.wants rests.rests))
idle_stays (goes one other polled started new up polls went released) rests = absurd (rests.no_work (up.wants rests.rests))
idle_stays (short one other polled up polls lives) rests = absurd (rests.no_work (up.wants rests.rests))

-- A step is idle where there is nothing to do, and there alone.
pub idle_of : (old new : State) (before after : DiskView) (answer : Result Step JournalFault) → StepsBy old new before after answer
    → (answer ≡ Ok steps.Idle) ↔ IsIdle old
idle_of old new before after answer by = (λ e. idle_then by.rule e, λ rests. (idle_stays by.rule rests).0)

pending_fell : (before after : DiskView) (answer : Option Progress) → IsTold before after answer → answer ≡ Some Pending → PollsFell before after
pending_fell before after answer told e = subst (λ (o : Option Progress). IsTold before after o) e told

failed_rose : (before after : DiskView) (answer : Option Progress) → IsTold before after answer → answer ≡ Some Failed → FaultsRose before after
failed_rose before after answer told e = subst (λ (o : Option Progress). IsTold before after o) e told

waited_then : {old new : State} {one other : Option Progress} {answer : Result Step JournalFault} → StepRule old one other new answer
    → answer ≡ Ok steps.Waited → (one ≡ Some Pending) ⊎ (other ≡ Some Pending)
waited_then (was_dead side count dead) e = absurd (cc)
waited_then (idle lives rests none) e = absurd (cc)
waited_then (dies one other polled new side count up polls end) e = absurd (cc)
waited_then (goes one other polled started new up polls went released) e = elim (waited_or_moved one other) [
  | inl (pending, is) ↦ pending
  | inr is ↦ absurd (cc)
]
waited_then (short one other polled up polls lives) e = absurd (cc)

-- A step has waited only where polls left to stall fell.
pub waited_of : (old new : State) (before after : DiskView) (answer : Result Step JournalFault) → StepsBy old new before after answer
    → answer ≡ Ok steps.Waited → PollsFell before after
waited_of old new before after answer by e = elim (waited_then by.rule e) [
  | inl is ↦ pending_fell before after by.one by.one_told is
  | inr is ↦ pending_fell before after by.other by.other_told is
]

marked_then : {old new : State} {one other : Option Progress} {answer : Result Step JournalFault} → StepRule old one other new answer
    → IfErr answer (IsMarked new)
marked_then (was_dead side count dead) = dead
marked_then (idle lives rests none) = tt
marked_then (dies one other polled new side count up polls end) = ap (λ (s : State). s.dead) end.new_is
marked_then (goes one other polled started new up polls went released) = tt
marked_then (short one other polled up polls lives) = tt

-- A step that ends with a mark leaves the journal with it.
pub dead_of : (old new : State) (before after : DiskView) (answer : Result Step JournalFault) → StepsBy old new before after answer
    → IfErr answer (IsMarked new)
dead_of old new before after answer by = marked_then by.rule

dead_stays : {old new : State} {one other : Option Progress} {answer : Result Step JournalFault} → StepRule old one other new answer
    → old.dead ≢ None → new ≡ old
dead_stays (was_dead side count dead) marked = refl
dead_stays (idle lives none no_work) marked = refl
dead_stays (dies one other polled new side count up polls end) marked = absurd (marked up.lives)
dead_stays (goes one other polled started new up polls went released) marked = absurd (marked up.lives)
dead_stays (short one other polled up polls lives) marked = absurd (marked up.lives)

-- A dead or idle journal stays as it is.
pub still_of : (old new : State) (before after : DiskView) (answer : Result Step JournalFault) → StepsBy old new before after answer
    → (old.dead ≢ None) ⊎ IsIdle old → new ≡ old
still_of old new before after answer by (inl marked) = dead_stays by.rule marked
still_of old new before after answer by (inr rests) = (idle_stays by.rule rests).1

-- ---- harm

-- No more are broken, or the poll has failed.
first_harms : {ws : List Writer} {answer : Option Progress} {ws' : List Writer} → PollsFirst ws answer ws'
    → (count_by is_broken ws' ≤ count_by is_broken ws) ⊎ (answer ≡ Some Failed)
first_harms (stepping.none ws rest) = inl (omega arith)
first_harms (stepping.polled front w back operation id answer rest phase) = go answer
  where
    go : (a : Progress) → (count_by is_broken (front ++ after_answer operation a w ∷ back) ≤ count_by is_broken (front ++ w ∷ back)) ⊎ (Some a ≡ Some Failed)
    go Pending = inl (omega (arith, count_same front w (after_answer operation Pending w) back (ap phase_is_broken phase) (ap phase_is_broken phase)))
    go Done = inl (omega (arith, count_same front w (after_answer operation Done w) back (ap phase_is_broken phase) refl))
    go Failed = inr refl

polls_harm : {old polled : State} {one other : Option Progress} → Polls old one other polled → (broken_count polled ≤ broken_count old)
    ⊎ ((one ≡ Some Failed) ⊎ (other ≡ Some Failed))
polls_harm (nothing_begun none) = inl (omega arith)
polls_harm {old} (asked earlier current one other earlier' current' are early late) = elim (first_harms early) [
  | inr failed ↦ inr (inl failed)
  | inl fewer ↦ elim (first_harms late) [
    | inr failed ↦ inr (inr failed)
    | inl fewer_late ↦
        inl (omega (
          arith,
          fewer,
          fewer_late,
          count_push is_broken earlier current,
          count_push is_broken earlier' current',
          ap (λ (ws : List Writer). count_by is_broken ws) are,
        ))
  ]
]

-- Where one is broken after the polls, one was before or the count of faults rose.
broken_before : (old polled : State) (one other : Option Progress) (before after : DiskView) → Polls old one other polled
    → IsTold before after one → IsTold before after other → 1 ≤ broken_count polled → IsHarmed old ⊎ FaultsRose before after
broken_before old polled one other before after polls one_told other_told broken = elim (polls_harm polls) [
  | inl fewer ↦ inl (inr (omega (arith, fewer, broken)))
  | inr (inl failed) ↦ inr (failed_rose before after one one_told failed)
  | inr (inr failed) ↦ inr (failed_rose before after other other_told failed)
]

pub broken_phase : (phase : Phase) → phase_is_broken phase ≡ true → phase ≡ Broken
broken_phase New e = absurd (let clash : false ≡ true = e in cc)
broken_phase (InFlight operation id) e = absurd (let clash : false ≡ true = e in cc)
broken_phase Idle e = absurd (let clash : false ≡ true = e in cc)
broken_phase Broken e = refl

whole_in_flight : (w : Writer) (operation : Operation) (id : OpId) → w.phase ≡ InFlight operation id → count_by is_broken (w ∷ []) ≡ 0
whole_in_flight w operation id is = ap (λ (p : Phase). count_by is_broken (record w { phase = p } ∷ [])) is

begins_whole : (old new : State) → BeginsNext old new → (broken_count new ≤ broken_count old) × (new.dead ≡ old.dead)
begins_whole old new begins = (
  omega (
    arith,
    ap (λ (s : State). broken_count s) begins.new_is,
    count_push is_broken old.segments begins.writer,
    whole_in_flight begins.writer Create begins.id begins.fresh.7,
  ),
  ap (λ (s : State). s.dead) begins.new_is,
)

-- the current segment once its next operation is started
abbrev pub current_then : (old new : State) → StartsNext old new → Writer
current_then old new next = record next.current {
  sent = sent_with next.operation (len old) next.current.sent;
  size = next.size;
  place = next.place;
  waiting = 0;
  phase = InFlight next.operation next.id;
}

starts_whole : (old new : State) → StartsNext old new → (broken_count new ≤ broken_count old) × (new.dead ≡ old.dead)
starts_whole old new next = (less, ap (λ (s : State). s.dead) next.new_is)
  where
    less : broken_count new ≤ broken_count old
    less = omega (
      arith,
      ap (λ (s : State). broken_count s) next.new_is,
      ap (λ (ws : List Writer). count_by is_broken ws) next.segments_are,
      count_push is_broken next.earlier next.current,
      count_push is_broken next.earlier (current_then old new next),
      whole_in_flight (current_then old new next) next.operation next.id refl,
    )

-- What is begun or started breaks nothing.
pub goes_whole : {polled started : State} → ActsAfterPolls polled started → (broken_count started ≤ broken_count polled) × (started.dead ≡ polled.dead)
goes_whole {polled} (first new none behind begins) = begins_whole polled new begins
goes_whole (none_to_begin none rests) = (omega arith, refl)
goes_whole {polled} (switches new verdict begins fresh) = begins_whole polled new begins
goes_whole {polled} (starts new verdict behind next fresh) = starts_whole polled new next
goes_whole (stays verdict rests) = (omega arith, refl)

pub polls_alive : {old polled : State} {one other : Option Progress} → Polls old one other polled → (polled.dead ≡ old.dead) × (polled.threshold ≡ old.threshold)
polls_alive (nothing_begun none) = (refl, refl)
polls_alive (asked earlier current one other earlier' current' are early late) = (refl, refl)

-- One is broken where the monitor says to die.
pub dying_broken : (state : State) → Verdict IsToDie state → 1 ≤ broken_count state
dying_broken state verdict = omega (
  arith,
  ap (λ (ws : List Writer). count_by is_broken ws) verdict.segments_are,
  count_push is_broken verdict.earlier verdict.current,
  one verdict.current verdict.says.0,
)
  where
    one : (w : Writer) → is_broken w ≡ true → count_by is_broken (w ∷ []) ≡ 1
    one w is = ap (λ (p : Phase). count_by is_broken (record w { phase = p } ∷ [])) (broken_phase w.phase is)

harmed_then : {old new : State} {one other : Option Progress} {answer : Result Step JournalFault} (before after : DiskView)
    → StepRule old one other new answer → IsTold before after one → IsTold before after other → IsHarmed new
    → IsHarmed old ⊎ FaultsRose before after
harmed_then before after (was_dead side count dead) one_told other_told harmed = inl harmed
harmed_then before after (idle lives rests none) one_told other_told harmed = inl harmed
harmed_then {old} before after (dies one other polled new side count up polls end) one_told other_told harmed = broken_before old polled one
    other before after polls one_told other_told (dying_broken polled end.verdict)
harmed_then {old} before after (goes one other polled started new up polls went released) one_told other_told harmed = elim harmed [
  | inl marked ↦ absurd (marked (ap (λ (s : State). s.dead) released.new_is ∙ (goes_whole went).1 ∙ (polls_alive polls).0 ∙ up.lives))
  | inr broken ↦ broken_before old polled one other before after polls one_told other_told
      (omega (arith, broken, (goes_whole went).0, ap (λ (s : State). broken_count s) released.new_is))
]
harmed_then {old} before after (short one other polled up polls lives) one_told other_told harmed = elim harmed [
  | inl marked ↦ absurd (marked ((polls_alive polls).0 ∙ up.lives))
  | inr broken ↦ broken_before old polled one other before after polls one_told other_told broken
]

-- A step does harm only where the count of faults rose.
pub harmed_of : (old new : State) (before after : DiskView) (answer : Result Step JournalFault) → StepsBy old new before after answer
    → IsHarmed new → IsHarmed old ⊎ FaultsRose before after
harmed_of old new before after answer by harmed = harmed_then before after by.rule by.one_told by.other_told harmed

-- ---- a smooth run

-- A poll of this step was pending or has failed.
abbrev IsRough : DiskView → DiskView → Type 0
IsRough before after = FaultsRose before after ⊎ PollsFell before after

smooth_put : (front : List Writer) (old new : Writer) (back : List Writer) → AllByRecursion IsSmoothSegment (front ++ old ∷ back)
    → IsSmoothSegment new → AllByRecursion IsSmoothSegment (front ++ new ∷ back)
smooth_put front old new back all here =
    all_append IsSmoothSegment front (new ∷ back) (all_front IsSmoothSegment front (old ∷ back) all) (here, (all_back IsSmoothSegment front (old ∷ back) all).1)

size_put : (front : List Writer) (old new : Writer) (back : List Writer) → length (front ++ new ∷ back) ≡ length (front ++ old ∷ back)
size_put front old new back = omega (arith, length-append front (new ∷ back), length-append front (old ∷ back))

first_size : {ws : List Writer} {answer : Option Progress} {ws' : List Writer} → PollsFirst ws answer ws' → length ws' ≡ length ws
first_size (stepping.none ws rest) = refl
first_size (stepping.polled front w back operation id answer rest phase) = size_put front w (after_answer operation answer w) back

first_smooth : {ws : List Writer} {answer : Option Progress} {ws' : List Writer} (before after : DiskView) → PollsFirst ws answer ws'
    → IsTold before after answer → AllByRecursion IsSmoothSegment ws
    → AllByRecursion IsSmoothSegment ws' ⊎ IsRough before after
first_smooth before after (stepping.none ws rest) told all = inl all
first_smooth before after (stepping.polled front w back operation id answer rest phase) told all = go answer told
  where
    go : (a : Progress) → IsTold before after (Some a) → AllByRecursion IsSmoothSegment (front ++ after_answer operation a w ∷ back) ⊎ IsRough before after
    go Pending fell = inr (inr fell)
    go Done done = inl (smooth_put front w (after_answer operation Done w) back all (refl, λ e. let clash : Idle ≡ Broken = e in cc))
    go Failed rose = inr (inl rose)

-- Polls that were all done leave it smooth.
polls_smooth : {old polled : State} {one other : Option Progress} (before after : DiskView) → Polls old one other polled
    → IsTold before after one → IsTold before after other → IsSmooth old → IsSmooth polled ⊎ IsRough before after
polls_smooth before after (nothing_begun none) one_told other_told smooth = inl smooth
polls_smooth {old} before after (asked earlier current one other earlier' current' are early late) one_told other_told smooth =
    let all : AllByRecursion IsSmoothSegment (earlier ++ current ∷ []) = subst (λ (ws : List Writer). AllByRecursion IsSmoothSegment ws) are smooth.segments in
    elim (first_smooth before after early one_told (all_front IsSmoothSegment earlier (current ∷ []) all)) [
      | inr rough ↦ inr rough
      | inl smooth_early ↦ elim (first_smooth before after late other_told (all_back IsSmoothSegment earlier (current ∷ []) all)) [
        | inr rough ↦ inr rough
        | inl smooth_late ↦
            inl (record {
              lives = smooth.lives;
              few =
                  omega (
                    arith,
                    smooth.few,
                    ap (λ (ws : List Writer). length ws) are,
                    length-append earlier (current ∷ []),
                    length-append earlier' (current' ∷ []),
                    first_size early,
                  );
              segments = all_append IsSmoothSegment earlier' (current' ∷ []) smooth_early smooth_late;
            })
      ]
    ]

smooth_current : (state : State) (earlier : List Writer) (current : Writer) → state.segments ≡ earlier ++ current ∷ [] → IsSmooth state
    → IsSmoothSegment current
smooth_current state earlier current are smooth =
    (all_back IsSmoothSegment earlier (current ∷ []) (subst (λ (ws : List Writer). AllByRecursion IsSmoothSegment ws) are smooth.segments)).0

not_broken : (w : Writer) → IsSmoothSegment w → is_broken w ≡ true → ⊥
not_broken w smooth broken = smooth.1 (broken_phase w.phase broken)

-- The monitor says neither to die nor to switch.
never_dies : (state : State) → IsSmooth state → Verdict IsToDie state → ⊥
never_dies state smooth verdict = not_broken verdict.current (smooth_current state verdict.earlier verdict.current verdict.segments_are smooth) verdict.says.0

never_switches : (state : State) → 1 ≤ state.threshold → IsSmooth state → Verdict IsToSwitch state → ⊥
never_switches state least smooth verdict =
    let here = smooth_current state verdict.earlier verdict.current verdict.segments_are smooth in
    elim verdict.says.2 [
      | inl broken ↦ not_broken verdict.current here broken
      | inr hangs ↦ omega (arith, least, hangs, here.0)
    ]

flight_smooth : (w : Writer) (operation : Operation) (id : OpId) → w.waiting ≡ 0 → w.phase ≡ InFlight operation id → IsSmoothSegment w
flight_smooth w operation id waiting phase = (waiting, λ e. let clash : InFlight operation id ≡ Broken = sym phase ∙ e in cc)

goes_smooth : {polled started : State} → ActsAfterPolls polled started → 1 ≤ polled.threshold → IsSmooth polled → IsSmooth started
goes_smooth {polled} (first new none behind begins) least smooth =
    subst (λ (s : State). IsSmooth s) (sym begins.new_is) (record {
      lives = smooth.lives;
      few = omega (arith, length-append polled.segments (begins.writer ∷ []), ap (λ (ws : List Writer). length ws) none);
      segments = all_append IsSmoothSegment polled.segments (begins.writer ∷ []) smooth.segments
          (flight_smooth begins.writer Create begins.id begins.fresh.6 begins.fresh.7, tt);
    })
goes_smooth (none_to_begin none rests) least smooth = smooth
goes_smooth {polled} (switches new verdict begins fresh) least smooth = absurd (never_switches polled least smooth verdict)
goes_smooth {polled} (starts new verdict behind next fresh) least smooth =
    let then = current_then polled new next in
    subst (λ (s : State). IsSmooth s) (sym next.new_is) (record {
      lives = smooth.lives;
      few = omega (arith, smooth.few, ap (λ (ws : List Writer). length ws) next.segments_are, size_put next.earlier next.current then []);
      segments = smooth_put next.earlier next.current then [] (subst (λ (ws : List Writer). AllByRecursion IsSmoothSegment ws)
          next.segments_are smooth.segments) (flight_smooth then next.operation next.id refl refl);
    })
goes_smooth (stays verdict rests) least smooth = smooth

released_smooth : (old new : State) → Releases old new → IsSmooth old → IsSmooth new
released_smooth old new released smooth = subst (λ (s : State). IsSmooth s) (sym released.new_is)
    (record { lives = smooth.lives; few = smooth.few; segments = smooth.segments })

smooth_then : {old new : State} {one other : Option Progress} {answer : Result Step JournalFault} (before after : DiskView)
    → StepRule old one other new answer → IsTold before after one → IsTold before after other → 1 ≤ old.threshold
    → IsSmooth old → IsSmooth new ⊎ IsRough before after
smooth_then before after (was_dead side count dead) one_told other_told least smooth = inl smooth
smooth_then before after (idle lives rests none) one_told other_told least smooth = inl smooth
smooth_then before after (dies one other polled new side count up polls end) one_told other_told least smooth = elim
    (polls_smooth before after polls one_told other_told smooth) [
      | inl polled_smooth ↦ absurd (never_dies polled polled_smooth end.verdict)
      | inr rough ↦ inr rough
    ]
smooth_then before after (goes one other polled started new up polls went released) one_told other_told least smooth = elim
    (polls_smooth before after polls one_told other_told smooth) [
      | inl polled_smooth ↦ inl (released_smooth started new released (goes_smooth went (omega (arith, least, (polls_alive polls).1)) polled_smooth))
      | inr rough ↦ inr rough
    ]
smooth_then before after (short one other polled up polls lives) one_told other_told least smooth = polls_smooth before after polls one_told other_told smooth

-- A smooth journal stays so, but where a poll of the step was pending or has failed.
pub smooth_of : (old new : State) (before after : DiskView) (answer : Result Step JournalFault) → StepsBy old new before after answer
    → 1 ≤ old.threshold → IsSmooth old
    → IsSmooth new ⊎ (FaultsRose before after ⊎ PollsFell before after)
smooth_of old new before after answer by least smooth = smooth_then before after by.rule by.one_told by.other_told least smooth
