-- What the calls of a journal's disk tell of it: how many segments it began, and whether it has given up.
use Rattle.std.proofs.Common.{◌≡◌, ◌≢◌, ℕ, ◌+◌, Bool, true, false, List, [], ◌∷◌, ◌++◌, length, Option, Some, None, Result, ap, sym, subst, ◌∙◌, refl, arith, append_assoc}
use Rattle.std.specs.Prelude.{nat_lt, not, ◌&&◌, if◌then◌else◌}
use Rattle.std.proofs.lemmas.List.{length-append}
use Rattle.disk_face.specs.declared.OpId.{OpId}
use Rattle.disk_face.specs.declared.Progress.{Progress}
use Rattle.disk_face.specs.declared.Progress.TheVariants.{Pending, Done, Failed}
use Rattle.disk_face.specs.View.{creating, Call, was_started, was_polled, DiskView}
use Rattle.disk_face.specs.Asked.{creates, creations, LastHasFailed}
use Rattle.disk_face.proofs.Laws.{Tracks, tracks_start, tracks_poll, tracks_failure, fails_last, last_fails, creations_one, creations_further}
use Rattle.stall_monitor.specs.declared.verdict.TheConstants.{SEGMENTS_MAX}
use Rattle.stall_monitor.specs.Verdicts.{IsToDie}
use Rattle.log_writer.specs.declared.phase.Operation.{Operation}
use Rattle.log_writer.specs.declared.phase.Operation.TheVariants.{Create, Write, Sync}
use Rattle.log_writer.specs.declared.phase.Phase.{Phase}
use Rattle.log_writer.specs.declared.phase.Phase.TheVariants.{New, InFlight, Idle, Broken}
use Rattle.log_writer.specs.declared.goal.Goal.{Goal}
use Rattle.log_writer.specs.Writer.{Writer}
use Rattle.log_writer.specs.Fits.{act_of, flight_on}
use Rattle.log_writer.specs.Steps.{after_answer, next_operation, next_of_created}
use Rattle.failover_writer.specs.declared.fault.JournalFault.{JournalFault}
use Rattle.failover_writer.specs.declared.fault.Step.{Step}
use Rattle.failover_writer.specs.State.{State, is_broken, phase_is_broken}
use Rattle.failover_writer.specs.Stepping.{PollsFirst, Polls, nothing_begun, asked, NoneFlies, Verdict, BeginsNext, StartsNext, ActsAfterPolls, first, none_to_begin, switches, starts, stays, StepRule, was_dead, idle, dies, goes, short}
use Rattle.failover_writer.specs.Stepping as stepping
use Rattle.failover_writer.specs.Stepping.{calls_of_poll, calls_of_polls, calls_of_act, calls_of}
use Rattle.failover_writer.specs.Outcome.{ComesTo, at_start, added, roomier, stepped, stalled}
use Rattle.failover_writer.specs.Outcome as outcome
use Rattle.failover_writer.proofs.Lists.{all_front}
use Rattle.failover_writer.proofs.StartsNext.{last_same}
use Rattle.failover_writer.proofs.StepRule.{current_then, goes_whole}

-- The current segment has the operation that was started last: it is broken exactly where that has failed. No earlier segment has an
-- operation of that id in flight.
pub record HasLast (earlier : List Writer) (w : Writer) (calls : List Call) : Type 0 where
  pub id : OpId
  pub begun : w.phase ≢ New
  pub last : Tracks id (is_broken w) calls
  pub its : (operation : Operation) (q : OpId) → w.phase ≡ InFlight operation q → q ≡ id
  pub others : NoneFlies id earlier

abbrev CurrentHasLast : List Writer → List Call → Type 0
CurrentHasLast ws calls = (earlier : List Writer) (w : Writer) → ws ≡ earlier ++ w ∷ [] → HasLast earlier w calls

-- No further segment may be begun, and the current one is broken.
abbrev IsSpent : List Writer → Type 0
IsSpent ws = (length ws ≡ SEGMENTS_MAX) × ((earlier : List Writer) (w : Writer) → ws ≡ earlier ++ w ∷ [] → is_broken w ≡ true)

pub record TellCalls (base : List Call) (state : State) (calls : List Call) : Type 0 where
  pub created : creations calls ≡ creations base + length state.segments
  pub current : CurrentHasLast state.segments calls
  pub given_up : state.dead ≢ None → IsSpent state.segments
  pub gives_up : IsSpent state.segments → state.dead ≢ None

-- ---- lists

front_same : (xs ys : List Writer) (x y : Writer) → xs ++ x ∷ [] ≡ ys ++ y ∷ [] → xs ≡ ys
front_same [] [] x y e = refl
front_same [] (b ∷ ys) x y e = absurd (omega (arith, ap (λ (l : List Writer). length l) e, length-append ys (y ∷ [])))
front_same (a ∷ xs) [] x y e = absurd (omega (arith, ap (λ (l : List Writer). length l) e, length-append xs (x ∷ [])))
front_same (a ∷ xs) (b ∷ ys) x y e =
    let heads : a ≡ b = cc in
    let tails : xs ++ x ∷ [] ≡ ys ++ y ∷ [] = cc in
    ap (λ (w : Writer). w ∷ xs) heads ∙ ap (λ (l : List Writer). b ∷ l) (front_same xs ys x y tails)

-- what holds of a last one and those before it holds of it however it is split
by_split : (calls : List Call) (ws earlier : List Writer) (w : Writer) → ws ≡ earlier ++ w ∷ [] → HasLast earlier w calls → CurrentHasLast ws calls
by_split calls ws earlier w is has earlier' w' is' =
    let split = sym is ∙ is' in
    subst (λ (l : List Writer). HasLast l w' calls) (front_same earlier earlier' w w' split)
    (subst (λ (v : Writer). HasLast earlier v calls) (last_same earlier earlier' w w' split) has)

-- ---- a poll

-- An answer leaves no operation in flight but that which was pending.
answer_flies : (operation : Operation) (answer : Progress) (w : Writer) (id : OpId) → ((o : Operation) → w.phase ≡ InFlight o id → ⊥)
    → (o : Operation) → (after_answer operation answer w).phase ≡ InFlight o id → ⊥
answer_flies operation Pending w id none o is = none o is
answer_flies operation Done w id none o is = cc
answer_flies operation Failed w id none o is = cc

flies_beside : (id : OpId) (front : List Writer) (w w' : Writer) (back : List Writer)
    → (((o : Operation) → w.phase ≡ InFlight o id → ⊥) → (o : Operation) → w'.phase ≡ InFlight o id → ⊥)
    → NoneFlies id (front ++ w ∷ back) → NoneFlies id (front ++ w' ∷ back)
flies_beside id [] w w' back one all = (one all.0, all.1)
flies_beside id (x ∷ front) w w' back one all = (all.0, flies_beside id front w w' back one all.1)

at_middle : (id : OpId) (front : List Writer) (w : Writer) (back : List Writer) → NoneFlies id (front ++ w ∷ back)
    → (o : Operation) → w.phase ≡ InFlight o id → ⊥
at_middle id [] w back all = all.0
at_middle id (x ∷ front) w back all = at_middle id front w back all.1

-- An earlier segment is polled.
early_told : {ws : List Writer} {answer : Option Progress} {ws' : List Writer} (polls : PollsFirst ws answer ws') (w : Writer) (calls : List Call)
    → HasLast ws w calls → HasLast ws' w (calls_of_poll polls ++ calls)
early_told (stepping.none ws rest) w calls has = has
early_told (stepping.polled front x back operation id answer rest phase) w calls has = record {
  id = has.id;
  begun = has.begun;
  last = tracks_poll has.id id answer (is_broken w) calls
      (λ p. at_middle has.id front x back has.others operation (phase ∙ ap (InFlight operation) p.0)) has.last;
  its = has.its;
  others = flies_beside has.id front x (after_answer operation answer x) back (answer_flies operation answer x has.id) has.others;
}

broken_in_flight : (w : Writer) (operation : Operation) (id : OpId) → w.phase ≡ InFlight operation id → is_broken w ≡ false
broken_in_flight w operation id is = ap phase_is_broken is

-- The current segment is polled.
current_told : (earlier : List Writer) (w : Writer) (operation : Operation) (id : OpId) (answer : Progress) (calls : List Call)
    → w.phase ≡ InFlight operation id → HasLast earlier w calls
    → HasLast earlier (after_answer operation answer w) (was_polled id answer ∷ calls)
current_told earlier w operation id Pending calls phase has = record {
  id = has.id;
  begun = has.begun;
  last = tracks_poll has.id id Pending (is_broken w) calls (λ p. let clash : Pending ≡ Failed = p.1 in cc) has.last;
  its = has.its;
  others = has.others;
}
current_told earlier w operation id Done calls phase has = record {
  id = has.id;
  begun = λ e. cc;
  last = tracks_poll has.id id Done false calls (λ p. let clash : Done ≡ Failed = p.1 in cc)
      (subst (λ (b : Bool). Tracks has.id b calls) (broken_in_flight w operation id phase) has.last);
  its = λ o q e. cc;
  others = has.others;
}
current_told earlier w operation id Failed calls phase has = record {
  id = has.id;
  begun = λ e. cc;
  last = tracks_failure has.id id (is_broken w) calls (has.its operation id phase) has.last;
  its = λ o q e. cc;
  others = has.others;
}

late_told : {ws : List Writer} {answer : Option Progress} {ws' : List Writer} (polls : PollsFirst ws answer ws') (earlier : List Writer)
    (w w' : Writer) (calls : List Call) → ws ≡ w ∷ [] → ws' ≡ w' ∷ [] → HasLast earlier w calls → HasLast earlier w' (calls_of_poll polls ++ calls)
late_told (stepping.none ws rest) earlier w w' calls is is' has =
    let same : w ≡ w' = let e : w ∷ [] ≡ w' ∷ [] = sym is ∙ is' in cc in
    subst (λ (v : Writer). HasLast earlier v calls) same has
late_told (stepping.polled [] x back operation id answer rest phase) earlier w w' calls is is' has =
    let here : x ≡ w = cc in
    let there : after_answer operation answer x ≡ w' = cc in
    subst (λ (v : Writer). HasLast earlier v (was_polled id answer ∷ calls)) there
    (current_told earlier x operation id answer calls phase (subst (λ (v : Writer). HasLast earlier v calls) (sym here) has))
late_told (stepping.polled (y ∷ front) x back operation id answer rest phase) earlier w w' calls is is' has =
    absurd (omega (arith, ap (λ (l : List Writer). length l) is, length-append front (x ∷ back)))

polls_told : {old polled : State} {one other : Option Progress} (polls : Polls old one other polled) (calls : List Call)
    → CurrentHasLast old.segments calls → CurrentHasLast polled.segments (calls_of_polls polls ++ calls)
polls_told (nothing_begun none) calls has = has
polls_told (asked earlier current one other earlier' current' are early late) calls has =
    by_split ((calls_of_poll late ++ calls_of_poll early) ++ calls) (earlier' ++ current' ∷ []) earlier' current' refl
    (subst (HasLast earlier' current') (sym (append_assoc (calls_of_poll late) (calls_of_poll early) calls))
    (late_told late earlier' current current' (calls_of_poll early ++ calls) refl refl
    (early_told early current calls (has earlier current are))))

creations_polls : {ws : List Writer} {answer : Option Progress} {ws' : List Writer} (polls : PollsFirst ws answer ws') → creations (calls_of_poll polls) ≡ 0
creations_polls (stepping.none ws rest) = refl
creations_polls (stepping.polled front w back operation id answer rest phase) = refl

polls_create : {old polled : State} {one other : Option Progress} (polls : Polls old one other polled) → creations (calls_of_polls polls) ≡ 0
polls_create (nothing_begun none) = refl
polls_create (asked earlier current one other earlier' current' are early late) =
    creations_further (calls_of_poll late) (calls_of_poll early) ∙ omega (arith, creations_polls late, creations_polls early)

polls_keep : {old polled : State} {one other : Option Progress} (polls : Polls old one other polled)
    → (length polled.segments ≡ length old.segments) × (polled.dead ≡ old.dead)
polls_keep (nothing_begun none) = (refl, refl)
polls_keep (asked earlier current one other earlier' current' are early late) = (
  omega (
    arith,
    ap (λ (l : List Writer). length l) are,
    length-append earlier (current ∷ []),
    length-append earlier' (current' ∷ []),
    first_length early,
  ),
  refl,
)
  where
    first_length : {ws : List Writer} {answer : Option Progress} {ws' : List Writer} → PollsFirst ws answer ws' → length ws' ≡ length ws
    first_length (stepping.none ws rest) = refl
    first_length (stepping.polled front w back operation id answer rest phase) =
        length-append front (after_answer operation answer w ∷ back) ∙ sym (length-append front (w ∷ back))

-- ---- what is begun or started then

begins_last : (polled new : State) (begins : BeginsNext polled new) (calls : List Call) → NoneFlies begins.id polled.segments
    → CurrentHasLast new.segments (was_started begins.id (flight_on creating begins.writer) ∷ calls)
begins_last polled new begins calls fresh =
    by_split (was_started begins.id (flight_on creating begins.writer) ∷ calls) new.segments polled.segments begins.writer
    (ap (λ (s : State). s.segments) begins.new_is) (record {
      id = begins.id;
      begun = λ e. let clash : InFlight Create begins.id ≡ New = sym begins.fresh.7 ∙ e in cc;
      last = subst (λ (b : Bool). Tracks begins.id b (was_started begins.id (flight_on creating begins.writer) ∷ calls))
          (sym (broken_in_flight begins.writer Create begins.id begins.fresh.7)) (tracks_start begins.id (flight_on creating begins.writer) calls);
      its = λ o q e. let same : InFlight Create begins.id ≡ InFlight o q = sym begins.fresh.7 ∙ e in cc;
      others = fresh;
    })

starts_last : (polled new : State) (next : StartsNext polled new) (calls : List Call) → NoneFlies next.id polled.segments
    → CurrentHasLast new.segments (was_started next.id (flight_on (act_of next.operation) next.current) ∷ calls)
starts_last polled new next calls fresh =
    let call = was_started next.id (flight_on (act_of next.operation) next.current) in
    by_split (call ∷ calls) new.segments next.earlier (current_then polled new next) (ap (λ (s : State). s.segments) next.new_is) (record {
      id = next.id;
      begun = λ e. let clash : InFlight next.operation next.id ≡ New = e in cc;
      last = tracks_start next.id (flight_on (act_of next.operation) next.current) calls;
      its = λ o q e. let same : InFlight next.operation next.id ≡ InFlight o q = e in cc;
      others = all_front (λ (w : Writer). (o : Operation) → w.phase ≡ InFlight o next.id → ⊥) next.earlier (next.current ∷ [])
          (subst (NoneFlies next.id) next.segments_are fresh);
    })

no_create : (written : ℕ) (goal : Goal) → next_of_created written goal ≡ Some Create → ⊥
no_create written goal next = go (nat_lt goal.acked goal.want && not (nat_lt written goal.want)) (nat_lt written goal.len) next
  where
    go : (sync more : Bool) → (if sync then Some Sync else (if more then Some Write else None)) ≡ Some Create → ⊥
    go true more e = cc
    go false true e = cc
    go false false e = cc

-- A segment that is begun has been created, or is being.
creates_none : (phase : Phase) (written : ℕ) (goal : Goal) (operation : Operation) → phase ≢ New → next_operation phase written goal ≡ Some operation
    → creates (act_of operation) ≡ 0
creates_none New written goal operation begun next = absurd (begun refl)
creates_none (InFlight o id) written goal operation begun next = cc
creates_none Idle written goal Create begun next = absurd (no_create written goal next)
creates_none Idle written goal Write begun next = refl
creates_none Idle written goal Sync begun next = refl
creates_none Broken written goal operation begun next = cc

one_created : (id : OpId) (w : Writer) (calls : List Call)
    → creations (was_started id (flight_on creating w) ∷ calls) ≡ 1 + creations calls
one_created id w calls = creations_one (was_started id (flight_on creating w)) calls

one_started : (id : OpId) (operation : Operation) (w : Writer) (calls : List Call)
    → creations (was_started id (flight_on (act_of operation) w) ∷ calls) ≡ creates (act_of operation) + creations calls
one_started id operation w calls = creations_one (was_started id (flight_on (act_of operation) w)) calls

acts_told : {polled started : State} (acts : ActsAfterPolls polled started) (base calls : List Call) → CurrentHasLast polled.segments calls
    → creations calls ≡ creations base + length polled.segments
    → CurrentHasLast started.segments (calls_of_act acts ++ calls)
    × (creations (calls_of_act acts ++ calls) ≡ creations base + length started.segments)
acts_told {polled} {started} (first new empty behind begins) base calls has count = (
  begins_last polled new begins calls (subst (NoneFlies begins.id) (sym empty) tt),
  omega (
    arith,
    count,
    one_created begins.id begins.writer calls,
    ap (λ (s : State). length s.segments) begins.new_is,
    length-append polled.segments (begins.writer ∷ []),
  ),
)
acts_told (none_to_begin empty rests) base calls has count = (has, count)
acts_told {polled} {started} (switches new verdict begins fresh) base calls has count = (
  begins_last polled new begins calls fresh,
  omega (
    arith,
    count,
    one_created begins.id begins.writer calls,
    ap (λ (s : State). length s.segments) begins.new_is,
    length-append polled.segments (begins.writer ∷ []),
  ),
)
acts_told {polled} {started} (starts new verdict behind next fresh) base calls has count = (
  starts_last polled new next calls fresh,
  omega (
    arith,
    count,
    one_started next.id next.operation next.current calls,
    creates_none next.current.phase next.current.written _ next.operation (has next.earlier next.current next.segments_are).begun next.next,
    ap (λ (s : State). length s.segments) next.new_is,
    ap (λ (l : List Writer). length l) next.segments_are,
    length-append next.earlier (next.current ∷ []),
    length-append next.earlier (current_then polled new next ∷ []),
  ),
)
acts_told (stays verdict none) base calls has count = (has, count)

-- ---- whether it has given up

last_part : (w : Writer) (ws : List Writer) → (earlier : List Writer) × (current : Writer) × (w ∷ ws ≡ earlier ++ current ∷ [])
last_part w [] = ([], w, refl)
last_part w (x ∷ ws) = let rest = last_part x ws in (w ∷ rest.0, rest.1, ap (λ (l : List Writer). w ∷ l) rest.2)

-- The monitor says to die exactly of a journal that is spent, and none is that begins or starts something.
spent_dies : (state : State) → IsSpent state.segments → Verdict IsToDie state
spent_dies state spent = go state.segments refl
  where
    go : (ws : List Writer) → state.segments ≡ ws → Verdict IsToDie state
    go [] is = absurd (omega (arith, spent.0, ap (λ (l : List Writer). length l) is))
    go (w ∷ ws) is =
        let parts = last_part w ws in
        let split = is ∙ parts.2 in
        record { earlier = parts.0; current = parts.1; segments_are = split; says = (spent.1 parts.0 parts.1 split, spent.0) }

dies_spent : (state : State) → Verdict IsToDie state → IsSpent state.segments
dies_spent state verdict = (
  verdict.says.1,
  λ earlier w is. subst (λ (v : Writer). is_broken v ≡ true) (last_same verdict.earlier earlier verdict.current w (sym verdict.segments_are ∙ is))
      verdict.says.0,
)

flying_unspent : (ws earlier : List Writer) (w : Writer) (operation : Operation) (id : OpId) → ws ≡ earlier ++ w ∷ []
    → w.phase ≡ InFlight operation id → IsSpent ws → ⊥
flying_unspent ws earlier w operation id is phase spent =
    let clash : true ≡ false = sym (spent.1 earlier w is) ∙ broken_in_flight w operation id phase in cc

acts_unspent : {polled started : State} → ActsAfterPolls polled started → IsSpent started.segments → ⊥
acts_unspent {polled} {started} (first new empty behind begins) spent =
    flying_unspent new.segments polled.segments begins.writer Create begins.id (ap (λ (s : State). s.segments) begins.new_is) begins.fresh.7 spent
acts_unspent (none_to_begin empty rests) spent = omega (arith, spent.0, ap (λ (l : List Writer). length l) empty)
acts_unspent {polled} {started} (switches new verdict begins fresh) spent =
    flying_unspent new.segments polled.segments begins.writer Create begins.id (ap (λ (s : State). s.segments) begins.new_is) begins.fresh.7 spent
acts_unspent {polled} {started} (starts new verdict behind next fresh) spent =
    flying_unspent new.segments next.earlier (current_then polled new next) next.operation next.id (ap (λ (s : State). s.segments) next.new_is) refl spent
acts_unspent {polled} (stays verdict none) spent =
    let verdict' = spent_dies polled spent in
    verdict.says.0 (subst (λ (w : Writer). IsToDie (stepping.shown_to_monitor polled w))
    (last_same verdict'.earlier verdict.earlier verdict'.current verdict.current (sym verdict'.segments_are ∙ verdict.segments_are)) verdict'.says)

-- ---- the step

rule_tells : {old new : State} {one other : Option Progress} {answer : Result Step JournalFault} (rule : StepRule old one other new answer)
    (base calls : List Call) → TellCalls base old calls → TellCalls base new (calls_of rule ++ calls)
rule_tells (was_dead side count is) base calls tells = tells
rule_tells (idle lives rests none) base calls tells = tells
rule_tells {old} (dies one other polled new side count up polls dying) base calls tells = record {
  created = omega (
    arith,
    tells.created,
    creations_further (calls_of_polls polls) calls,
    polls_create polls,
    (polls_keep polls).0,
    ap (λ (s : State). length s.segments) dying.new_is,
  );
  current = subst (λ (ws : List Writer). CurrentHasLast ws (calls_of_polls polls ++ calls)) (sym (ap (λ (s : State). s.segments) dying.new_is))
      (polls_told polls calls tells.current);
  given_up = λ some. subst IsSpent (sym (ap (λ (s : State). s.segments) dying.new_is)) (dies_spent polled dying.verdict);
  gives_up = λ spent none. let clash = sym (ap (λ (s : State). s.dead) dying.new_is) ∙ none in cc;
}
rule_tells {old} (goes one other polled started new up polls acts releases) base calls tells =
    let one_call : CurrentHasLast polled.segments (calls_of_polls polls ++ calls) = polls_told polls calls tells.current in
    let told = acts_told acts base (calls_of_polls polls ++ calls) one_call
    (omega (arith, tells.created, creations_further (calls_of_polls polls) calls, polls_create polls, (polls_keep polls).0)) in
    let same : new.segments ≡ started.segments = ap (λ (s : State). s.segments) releases.new_is in
    let lives : new.dead ≡ None = ap (λ (s : State). s.dead) releases.new_is ∙ (goes_whole acts).1 ∙ (polls_keep polls).1 ∙ up.lives in
    subst (TellCalls base new) (sym (append_assoc (calls_of_act acts) (calls_of_polls polls) calls)) (record {
      created = told.1 ∙ ap (λ (ws : List Writer). creations base + length ws) (sym same);
      current = subst (λ (ws : List Writer). CurrentHasLast ws (calls_of_act acts ++ (calls_of_polls polls ++ calls))) (sym same) told.0;
      given_up = λ some. absurd (some lives);
      gives_up = λ spent. absurd (acts_unspent acts (subst IsSpent same spent));
    })
rule_tells {old} (short one other polled up polls lives) base calls tells = record {
  created = omega (arith, tells.created, creations_further (calls_of_polls polls) calls, polls_create polls, (polls_keep polls).0);
  current = polls_told polls calls tells.current;
  given_up = λ some. absurd (some ((polls_keep polls).1 ∙ up.lives));
  gives_up = λ spent. absurd (lives (spent_dies polled spent));
}

-- ---- since the start

-- nothing but the queue, or the numbers after the last record, changed
told_beside : (base : List Call) (old new : State) (calls calls' : List Call) → new.segments ≡ old.segments → new.dead ≡ old.dead → calls' ≡ calls
    → TellCalls base old calls → TellCalls base new calls'
told_beside base old new calls calls' segments dead same tells =
    subst (TellCalls base new) (sym same) (record {
      created = tells.created ∙ ap (λ (ws : List Writer). creations base + length ws) (sym segments);
      current = subst (λ (ws : List Writer). CurrentHasLast ws calls) (sym segments) tells.current;
      given_up = λ some. subst IsSpent (sym segments) (tells.given_up (λ none. some (dead ∙ none)));
      gives_up = λ spent none. tells.gives_up (subst IsSpent segments spent) (sym dead ∙ none);
    })

pub tell_calls : {start : State} {before : DiskView} {state : State} {v : DiskView} → ComesTo start before state v → start.segments ≡ [] → start.dead ≡ None
    → TellCalls before.calls state v.calls
tell_calls {start} {before = before} at_start none lives = record {
  created = omega (arith, ap (λ (ws : List Writer). length ws) none);
  current = λ earlier w is. absurd (omega (arith, ap (λ (ws : List Writer). length ws) (sym none ∙ is), length-append earlier (w ∷ [])));
  given_up = λ some. absurd (some lives);
  gives_up = λ spent. absurd (omega (arith, spent.0, ap (λ (ws : List Writer). length ws) none));
}
tell_calls {before = before} (added mid new v batch sync way pushes) none lives =
    told_beside before.calls mid new v.calls v.calls (ap (λ (s : State). s.segments) pushes.new_is) (ap (λ (s : State). s.dead) pushes.new_is) refl
    (tell_calls way none lives)
tell_calls {before = before} (roomier mid v spare way) none lives =
    told_beside before.calls mid _ v.calls v.calls refl refl refl (tell_calls way none lives)
tell_calls {before = before} (outcome.asked mid v way) none lives =
    told_beside before.calls mid _ v.calls v.calls refl refl refl (tell_calls way none lives)
tell_calls {before = before} (stepped mid new v after answer way by) none lives =
    subst (TellCalls before.calls new) (sym by.asks) (rule_tells by.rule before.calls v.calls (tell_calls way none lives))
tell_calls {before = before} (stalled mid v after side polls way stalls) none lives =
    told_beside before.calls mid mid v.calls after.calls refl refl stalls.calls (tell_calls way none lives)

-- A journal that has given up is one of the most segments, whose last operation has failed;
pub given_up_told : (base : List Call) (state : State) (calls : List Call) → TellCalls base state calls → state.dead ≢ None
    → (length state.segments ≡ SEGMENTS_MAX) × LastHasFailed calls
given_up_told base state calls tells died =
    let spent = tells.given_up died in
    let verdict = spent_dies state spent in
    let has = tells.current verdict.earlier verdict.current verdict.segments_are in
    (spent.0, last_fails has.id calls (subst (λ (b : Bool). Tracks has.id b calls) verdict.says.0 has.last))

-- and one of the most segments whose last operation has failed has given up.
pub gives_up_told : (base : List Call) (state : State) (calls : List Call) → TellCalls base state calls → length state.segments ≡ SEGMENTS_MAX
    → LastHasFailed calls → state.dead ≢ None
gives_up_told base state calls tells most fails =
    tells.gives_up (most, λ earlier w is. let has = tells.current earlier w is in fails_last has.id (is_broken w) calls has.last fails)
