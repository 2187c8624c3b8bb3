-- Steps come to an end: each takes a poll left, or leaves less to do.
use Rattle.std.proofs.Common.{◌≡◌, ◌⊎◌, inl, inr, ℕ, ◌+◌, ◌-◌, ◌*◌, ◌<◌, ◌≤◌, Bool, true, false, not, ◌&&◌, ltb, if◌then◌else◌, List, [], ◌∷◌, ◌++◌, length, Option, Some, None, Result, ap, sym, subst, ◌∙◌, refl, arith}
use borrow.Author.Tests.{lt-ltb}
use native.Mathlib.Decide.{dec_lt}
use Rattle.std.proofs.lemmas.Bool.Decides.{nat_tests}
use Rattle.std.proofs.lemmas.List.{length-append}
use Rattle.disk_face.specs.declared.Side.{Side}
use Rattle.disk_face.specs.declared.Side.TheVariants.{Primary, Secondary}
use Rattle.disk_face.specs.declared.OpId.{OpId}
use Rattle.disk_face.specs.declared.Progress.{Progress}
use Rattle.disk_face.specs.declared.Progress.TheVariants.{Pending, Done, Failed}
use Rattle.disk_face.specs.View.{DiskView}
use Rattle.disk_face.specs.Calls.{GoesOn}
use Rattle.log_writer.specs.declared.phase.Operation.{Operation}
use Rattle.log_writer.specs.declared.phase.Operation.TheVariants.{Create, Write, Sync}
use Rattle.log_writer.specs.declared.phase.Phase.{Phase}
use Rattle.log_writer.specs.declared.phase.Phase.TheVariants.{New, InFlight, Idle, Broken}
use Rattle.log_writer.specs.Writer.{Writer}
use Rattle.log_writer.specs.Fits.{IsBusy}
use Rattle.log_writer.specs.Steps.{next_operation, sent_with, after_answer}
use Rattle.failover_writer.specs.declared.fault.JournalFault.{JournalFault}
use Rattle.failover_writer.specs.declared.fault.Step.{Step}
use Rattle.failover_writer.specs.State.{State, len, acked, most_synced, is_broken, phase_is_broken}
use Rattle.failover_writer.specs.Stepping as stepping
use Rattle.failover_writer.specs.Stepping.{NoneBusy, WantsMore, HasWork, PollsFirst, Polls, nothing_begun, asked, Verdict, IsToStay, BeginsNext, StartsNext, Releases, first, none_to_begin, switches, starts, stays, IsUp, StepRule, was_dead, idle, dies, goes, short}
use Rattle.failover_writer.specs.Answered.{IsTold, PollsFell, StepsBy}
use Rattle.failover_writer.specs.Remaining.{still_to, rank_in, rank, ranks, work, polls_left, measure, Falls}
use Rattle.failover_writer.proofs.Segments.{all_last, most_synced_push}

-- ---- what is still to be done

still_most : (reached goal : ℕ) → still_to reached goal ≤ 2
still_most reached goal = grind (arith, nat_tests)

pub ranks_append : (len want : ℕ) (front back : List Writer) → ranks len want (front ++ back) ≡ ranks len want front + ranks len want back
ranks_append len want [] back = omega arith
ranks_append len want (w ∷ front) back = omega (arith, ranks_append len want front back)

-- ---- an operation that was polled

-- an operation was polled, and has ended
abbrev pub HasEnded : Option Progress → Type 0
HasEnded None = ⊥
HasEnded (Some Pending) = ⊥
HasEnded (Some Done) = Unit {0}
HasEnded (Some Failed) = Unit {0}

-- There is no more to do than before, and less where an operation has ended.
pub record Lowers (before after : ℕ) (answer : Option Progress) : Type 0 where
  pub no_more : after ≤ before
  pub less : HasEnded answer → after < before

done_falls : (len want : ℕ) (operation : Operation) (id : OpId) (w : Writer)
    → rank len want (after_answer operation Done w) < rank_in len want (InFlight operation id) w.sent w.written w.synced
done_falls len want Create id w = omega arith
done_falls len want Write id w = omega arith
done_falls len want Sync id w = omega arith

flight_above : (len want sent written synced : ℕ) (operation : Operation) (id : OpId) → 0 < rank_in len want (InFlight operation id) sent written synced
flight_above len want sent written synced Create id = omega arith
flight_above len want sent written synced Write id = omega arith
flight_above len want sent written synced Sync id = omega arith

answer_lowers : (len want : ℕ) (operation : Operation) (id : OpId) (answer : Progress) (w : Writer) → w.phase ≡ InFlight operation id
    → Lowers (rank len want w) (rank len want (after_answer operation answer w)) (Some answer)
answer_lowers len want operation id Pending w phase = record { no_more = omega arith; less = λ none. absurd none }
answer_lowers len want operation id Done w phase =
    let was : rank len want w ≡ rank_in len want (InFlight operation id) w.sent w.written w.synced = ap
    (λ (p : Phase). rank_in len want p w.sent w.written w.synced) phase in
    let falls = done_falls len want operation id w in
    record { no_more = omega (arith, was, falls); less = λ _. omega (arith, was, falls) }
answer_lowers len want operation id Failed w phase =
    let was : rank len want w ≡ rank_in len want (InFlight operation id) w.sent w.written w.synced = ap
    (λ (p : Phase). rank_in len want p w.sent w.written w.synced) phase in
    let above = flight_above len want w.sent w.written w.synced operation id in
    record { no_more = omega (arith, was, above); less = λ _. omega (arith, was, above) }

first_lowers : (len want : ℕ) {ws left : List Writer} {answer : Option Progress} → PollsFirst ws answer left
    → Lowers (ranks len want ws) (ranks len want left) answer
first_lowers len want (stepping.none ws rests) = record { no_more = omega arith; less = λ none. absurd none }
first_lowers len want (stepping.polled front w back operation id answer rests phase) =
    let one = answer_lowers len want operation id answer w phase in
    let was = ranks_append len want front (w ∷ back) in
    let is = ranks_append len want front (after_answer operation answer w ∷ back) in
    record { no_more = omega (arith, one.no_more, was, is); less = λ ended. omega (arith, one.less ended, was, is) }

first_count : {ws left : List Writer} {answer : Option Progress} → PollsFirst ws answer left → length left ≡ length ws
first_count (stepping.none ws rests) = refl
first_count (stepping.polled front w back operation id answer rests phase) = omega
    (arith, length-append front (w ∷ back), length-append front (after_answer operation answer w ∷ back))

first_none : {ws left : List Writer} {answer : Option Progress} → PollsFirst ws answer left → answer ≡ None → (left ≡ ws) × NoneBusy ws
first_none (stepping.none ws rests) e = (refl, rests)
first_none (stepping.polled front w back operation id answer rests phase) e = cc

-- ---- the polls of a step

-- They change the segments alone. There is no more to do, and less where an operation has ended; where none was polled nothing was busy.
pub record PollsLower (old polled : State) (one other : Option Progress) : Type 0 where
  pub same : polled ≡ record old { segments = polled.segments }
  pub count : length polled.segments ≡ length old.segments
  pub early : Lowers (ranks (len old) old.want old.segments) (ranks (len old) old.want polled.segments) one
  pub late : Lowers (ranks (len old) old.want old.segments) (ranks (len old) old.want polled.segments) other
  pub nothing : one ≡ None → other ≡ None → (polled ≡ old) × NoneBusy old.segments

none_busy_push : (earlier : List Writer) (current : Writer) → NoneBusy earlier → NoneBusy (current ∷ []) → NoneBusy (earlier ++ current ∷ [])
none_busy_push [] current all last = last
none_busy_push (w ∷ earlier) current all last = (all.0, none_busy_push earlier current all.1 last)

pub polls_lower : {old polled : State} {one other : Option Progress} → Polls old one other polled → PollsLower old polled one other
polls_lower {old = old} (nothing_begun none) = record {
  same = refl;
  count = refl;
  early = record { no_more = omega arith; less = λ none. absurd none };
  late = record { no_more = omega arith; less = λ none. absurd none };
  nothing = λ _ _. (refl, subst NoneBusy (sym none) tt);
}
polls_lower {old = old} (asked earlier current one other earlier' current' is early late) =
    let front = first_lowers (len old) old.want early in
    let back = first_lowers (len old) old.want late in
    let was : ranks (len old) old.want old.segments ≡ ranks (len old) old.want earlier + ranks (len old) old.want (current ∷ []) = ap
    (ranks (len old) old.want) is ∙ ranks_append (len old) old.want earlier (current ∷ []) in
    let now = ranks_append (len old) old.want earlier' (current' ∷ []) in
    record {
      same = refl;
      count = omega (arith, ap length is, first_count early, length-append earlier (current ∷ []), length-append earlier' (current' ∷ []));
      early = record {
        no_more = omega (arith, was, now, front.no_more, back.no_more);
        less = λ ended. omega (arith, was, now, front.less ended, back.no_more);
      };
      late = record { no_more = omega (arith, was, now, front.no_more, back.no_more); less = λ ended. omega (arith, was, now, front.no_more, back.less ended) };
      nothing = λ no_one no_other.
          let left = first_none early no_one in
          let right = first_none late no_other in
          let whole : earlier' ++ current' ∷ [] ≡ old.segments = ap (λ (ws : List Writer). ws ++ current' ∷ []) left.0
          ∙ ap (λ (ws : List Writer). earlier ++ ws) right.0 ∙ sym is in
          (ap (λ (ws : List Writer). record old { segments = ws }) whole, subst NoneBusy (sym is) (none_busy_push earlier current left.1 right.1));
    }

-- ---- what is begun or started

begins_lowers : (old new : State) → length old.segments < 10 → BeginsNext old new → work new < work old
begins_lowers old new few begins =
    let w = begins.writer in
    let flies : rank (len old) old.want w ≡ rank_in (len old) old.want (InFlight Create begins.id) w.sent w.written w.synced = ap
    (λ (p : Phase). rank_in (len old) old.want p w.sent w.written w.synced) begins.fresh.7 in
    subst (λ (s : State). work s < work old) (sym begins.new_is)
    (omega (
      arith,
      few,
      flies,
      still_most w.written (len old),
      still_most w.synced old.want,
      length-append old.segments (w ∷ []),
      ranks_append (len old) old.want old.segments (w ∷ []),
    ))

-- What is started at rest leaves less to do.
started_falls : (len want acked sent written synced : ℕ) (phase : Phase) (operation : Operation) (id : OpId) → synced ≤ acked
    → next_operation phase written (record { len = len; want = want; acked = acked }) ≡ Some operation
    → rank_in len want (InFlight operation id) (sent_with operation len sent) written synced < rank_in len want phase sent written synced
started_falls len want acked sent written synced New operation id covered next =
    let is : Create ≡ operation = cc in
    subst (λ (o : Operation). rank_in len want (InFlight o id) (sent_with o len sent) written synced < 8) is
    (omega (arith, still_most written len, still_most synced want))
started_falls len want acked sent written synced (InFlight flying at) operation id covered next = cc
started_falls len want acked sent written synced Broken operation id covered next = cc
started_falls len want acked sent written synced Idle operation id covered next = go (ltb acked want) (ltb written want) (ltb written len) refl refl refl next
  where
    writes : ltb written len ≡ true → Write ≡ operation → rank_in len want (InFlight operation id) (sent_with operation len sent) written
        synced < rank_in len want Idle sent written synced
    writes more is = subst (λ (o : Operation). rank_in len want (InFlight o id) (sent_with o len sent) written synced < rank_in len want
        Idle sent written synced) is (grind (arith, nat_tests))

    go : (wanted has more : Bool) → ltb acked want ≡ wanted → ltb written want ≡ has → ltb written len ≡ more
        → (if wanted && not has then Some Sync else (if more then Some Write else None)) ≡ Some operation
        → rank_in len want (InFlight operation id) (sent_with operation len sent) written synced < rank_in len want Idle sent written synced
    go true false more a b c e =
        let is : Sync ≡ operation = cc in
        subst (λ (o : Operation). rank_in len want (InFlight o id) (sent_with o len sent) written synced < rank_in len want Idle sent
        written synced) is (grind (arith, nat_tests))
    go true true true a b c e = writes c cc
    go true true false a b c e = cc
    go false has true a b c e = writes c cc
    go false has false a b c e = cc

starts_lowers : (old new : State) → StartsNext old new → work new < work old
starts_lowers old new is =
    let earlier = is.earlier in
    let current = is.current in
    let next : Writer = record current {
      sent = sent_with is.operation (len old) current.sent;
      size = is.size;
      place = is.place;
      waiting = 0;
      phase = InFlight is.operation is.id;
    } in
    let covered : current.synced ≤ acked old = omega (arith, ap (most_synced 0) is.segments_are, most_synced_push 0 earlier current) in
    let falls : rank (len old) old.want next < rank (len old) old.want current = started_falls (len old) old.want
    (acked old) current.sent current.written current.synced current.phase is.operation is.id covered is.next in
    subst (λ (s : State). work s < work old) (sym is.new_is)
    (omega (
      arith,
      falls,
      ap length is.segments_are,
      ap (ranks (len old) old.want) is.segments_are,
      length-append earlier (current ∷ []),
      length-append earlier (next ∷ []),
      ranks_append (len old) old.want earlier (current ∷ []),
      ranks_append (len old) old.want earlier (next ∷ []),
    ))

-- ---- where nothing is begun or started, though there is work

-- A segment at rest has a next operation.
idle_next : (len want acked written : ℕ) → want ≤ len → (written < len) ⊎ (acked < want) → (operation : Operation)
    × (next_operation Idle written (record { len = len; want = want; acked = acked }) ≡ Some operation)
idle_next len want acked written within wants = go (ltb acked want) (ltb written want) (ltb written len) refl refl refl
  where
    go : (wanted has more : Bool) → ltb acked want ≡ wanted → ltb written want ≡ has → ltb written len ≡ more → (operation : Operation)
        × ((if wanted && not has then Some Sync else (if more then Some Write else None)) ≡ Some operation)
    go true false more a b c = (Sync, refl)
    go true true true a b c = (Write, refl)
    go true true false a b c = absurd (grind (arith, nat_tests))
    go false has true a b c = (Write, refl)
    go false has false a b c = elim wants [ inl less ↦ absurd (grind (arith, nat_tests)) | inr less ↦ absurd (grind (arith, nat_tests)) ]

wants_last : (state : State) (earlier : List Writer) (current : Writer) → WantsMore state (earlier ++ current ∷ [])
    → (current.phase ≡ Broken) ⊎ ((current.written < len state) ⊎ (acked state < state.want))
wants_last state [] current wants = wants
wants_last state (w ∷ []) current wants = wants
wants_last state (w ∷ v ∷ earlier) current wants = wants_last state (v ∷ earlier) current wants

-- The monitor leaves no broken segment in its place, and any other at rest has a next operation.
stays_none : (polled : State) → polled.want ≤ len polled → length polled.segments ≤ 10 → Verdict IsToStay polled
    → ((new : State) → StartsNext polled new → ⊥) → HasWork polled → NoneBusy polled.segments → ⊥
stays_none polled within few verdict none wants rests = go verdict.current.phase refl
  where
    start : (operation : Operation) → next_operation verdict.current.phase verdict.current.written
        (record { len = len polled; want = polled.want; acked = acked polled }) ≡ Some operation → ⊥
    start operation next =
        none (record polled {
          segments = verdict.earlier ++ record verdict.current {
            sent = sent_with operation (len polled) verdict.current.sent;
            size = 0;
            place = 0;
            waiting = 0;
            phase = InFlight operation (record { side = Primary; number = 0 });
          } ∷ [];
        })
        (record {
          earlier = verdict.earlier;
          current = verdict.current;
          operation = operation;
          id = record { side = Primary; number = 0 };
          size = 0;
          place = 0;
          segments_are = verdict.segments_are;
          next = next;
          new_is = refl;
        })

    go : (phase : Phase) → verdict.current.phase ≡ phase → ⊥
    go New is = start Create (ap (λ (p : Phase). next_operation p verdict.current.written
        (record { len = len polled; want = polled.want; acked = acked polled })) is)
    go (InFlight operation id) is = all_last (λ (w : Writer). IsBusy w.phase → ⊥) verdict.earlier verdict.current
        (subst NoneBusy verdict.segments_are rests) (subst IsBusy (sym is) tt)
    go Idle is =
        let more : (verdict.current.written < len polled) ⊎ (acked polled < polled.want) = elim
        (wants_last polled verdict.earlier verdict.current (subst (WantsMore polled) verdict.segments_are wants.1)) [
          | inl broken ↦ (let clash : Idle ≡ Broken = sym is ∙ broken in cc)
          | inr more ↦ more
        ] in
        let next = idle_next (len polled) polled.want (acked polled) verdict.current.written within more in
        start next.0 (ap (λ (p : Phase). next_operation p verdict.current.written
        (record { len = len polled; want = polled.want; acked = acked polled })) is ∙ next.1)
    go Broken is =
        let broken : is_broken verdict.current ≡ true = ap phase_is_broken is in
        elim (dec_lt (length polled.segments) 10) [
          | yes less ↦ verdict.says.1 (less, lt-ltb (acked polled) (len polled) wants.0, inl broken)
          | no not_less ↦ verdict.says.0 (broken, omega (arith, few, not_less))
        ]

-- Something is begun or started where there is work and nothing is busy.
goes_lower : (polled new : State) → polled.want ≤ len polled → length polled.segments ≤ 10 → stepping.ActsAfterPolls polled new
    → (work new < work polled) ⊎ ((new ≡ polled) × (HasWork polled → NoneBusy polled.segments → ⊥))
goes_lower polled new within few (first _ none behind begins) = inl (begins_lowers polled new (omega (arith, ap length none)) begins)
goes_lower polled new within few (none_to_begin none not_behind) = inr (refl, λ more _. not_behind more.0)
goes_lower polled new within few (switches _ verdict begins fresh) = inl (begins_lowers polled new verdict.says.0 begins)
goes_lower polled new within few (starts _ verdict behind is fresh) = inl (starts_lowers polled new is)
goes_lower polled new within few (stays verdict none) = inr (refl, λ more rests. stays_none polled within few verdict (none more.0) more rests)

-- ---- the step

polls_fall : (before after : DiskView) → GoesOn before after → PollsFell before after → polls_left after < polls_left before
polls_fall before after goes_on fell = go fell.0 fell.1
  where
    go : (side : Side) → after.polls_left side < before.polls_left side → polls_left after < polls_left before
    go Primary less = omega (arith, less, goes_on.polls Secondary)
    go Secondary less = omega (arith, less, goes_on.polls Primary)

-- A poll was pending, or an operation has ended, or none was polled.
polls_came : (before after : DiskView) (one other : Option Progress) → IsTold before after one → IsTold before after other
    → PollsFell before after ⊎ ((HasEnded one ⊎ HasEnded other) ⊎ ((one ≡ None) × (other ≡ None)))
polls_came before after (Some Pending) other told also = inl told
polls_came before after (Some Done) other told also = inr (inl (inl tt))
polls_came before after (Some Failed) other told also = inr (inl (inl tt))
polls_came before after None (Some Pending) told also = inl also
polls_came before after None (Some Done) told also = inr (inl (inr tt))
polls_came before after None (Some Failed) told also = inr (inl (inr tt))
polls_came before after None None told also = inr (inr (refl, refl))

gone_falls : (old polled started new : State) (before after : DiskView) (one other : Option Progress) → old.want ≤ len old
    → length old.segments ≤ 10 → GoesOn before after → IsUp old → Polls old one other polled → stepping.ActsAfterPolls polled started
    → Releases started new → IsTold before after one → IsTold before after other → measure new after < measure old before
gone_falls old polled started new before after one other within few goes_on up polls went releases told also =
    let lower = polls_lower polls in
    let same_len : len polled ≡ len old = ap (λ (s : State). len s) lower.same in
    let same_want : polled.want ≡ old.want = ap (λ (s : State). s.want) lower.same in
    let same_ranks : ranks (len polled) polled.want polled.segments ≡ ranks (len old) old.want polled.segments = ap
    (λ (s : State). ranks (len s) s.want polled.segments) lower.same in
    let low : work polled ≤ work old = omega (arith, lower.count, lower.early.no_more, same_ranks) in
    let released : work new ≡ work started =
    ap (λ (s : State). (10 - length s.segments) * 8 + ranks (len new) s.want s.segments) releases.new_is
    ∙ ap (λ (n : ℕ). (10 - length started.segments) * 8 + ranks n started.want started.segments) releases.end in
    let fewer : polls_left after ≤ polls_left before = omega (arith, goes_on.polls Primary, goes_on.polls Secondary) in
    let went = goes_lower polled started (omega (arith, same_want, same_len, within)) (omega (arith, few, lower.count)) went in
    let no_more : work started ≤ work polled = elim went [ inl less ↦ omega (arith, less) | inr same ↦ omega (arith, ap work same.0) ] in
    elim (polls_came before after one other told also) [
      | inl fell ↦ omega (arith, polls_fall before after goes_on fell, low, no_more, released)
      | inr (inl (inl ended)) ↦ omega (arith, fewer, lower.count, lower.early.less ended, same_ranks, no_more, released)
      | inr (inl (inr ended)) ↦ omega (arith, fewer, lower.count, lower.late.less ended, same_ranks, no_more, released)
      | inr (inr none) ↦
          let nothing = lower.nothing none.0 none.1 in
          elim went [
            | inl less ↦ omega (arith, fewer, less, low, released)
            | inr same ↦ absurd (same.1 (subst HasWork (sym nothing.0) (up.wants nothing.1))
                (subst (λ (s : State). NoneBusy s.segments) (sym nothing.0) nothing.1))
          ]
    ]

-- A step that is not idle takes a poll left, or leaves less to do.
pub falls : (old new : State) (before after : DiskView) (answer : Result Step JournalFault) → old.want ≤ len old → length old.segments ≤ 10
    → GoesOn before after → StepsBy old new before after answer → Falls old new before after answer
falls old new before after answer within few goes_on by = go by.rule by.one_told by.other_told
  where
    go : {one other : Option Progress} {left : State} {result : Result Step JournalFault} → StepRule old one other left result
        → IsTold before after one → IsTold before after other → Falls old left before after result
    go (was_dead side count dead) told also = tt
    go (idle lives rests none) told also = λ busy. absurd (busy refl)
    go (dies one other polled left side count up polls died) told also = tt
    go (goes one other polled started left up polls went releases) told also = λ busy. gone_falls old polled started left before after one
        other within few goes_on up polls went releases told also
    go (short one other polled up polls lives) told also = tt
