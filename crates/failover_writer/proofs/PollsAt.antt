-- A segment of a journal is polled: the journal's own numbers, and what it holds, with the answer.
use Rattle.std.proofs.Common.{◌≡◌, ◌≢◌, ℕ, zero, suc, ◌+◌, ◌≤◌, max, Bool, true, false, cond, List, [], ◌∷◌, ◌++◌, length, get_or, take, drop, Option, Some, None, IsTrue, ap, sym, subst, ◌∙◌, refl, arith}
use Rattle.std.specs.Prelude.{◌-◌, slice_get, count_by, IfSome, MatchBool, is_some}
use Rattle.std.specs.List.{AllByRecursion}
use Rattle.std.proofs.Math.ListN.{set}
use Rattle.std.proofs.lemmas.List.{set_split, length-set, take-set-le, take-append-drop}
use Rattle.std.proofs.lemmas.List.Sums.{sum_by-append, sum_by-cons, count_by-le-length}
use Rattle.std.proofs.lemmas.Option.{slice_get_within, get_or_from_slice_get}
use Rattle.batch_repr.specs.declared.batch.Batch.{Batch}
use Rattle.disk_face.specs.declared.Side.{Side}
use Rattle.disk_face.specs.declared.Side.TheVariants.{Primary, Secondary}
use Rattle.disk_face.specs.declared.OpId.{OpId}
use Rattle.disk_face.specs.declared.Progress.{Progress}
use Rattle.disk_face.specs.declared.Progress.TheVariants.{Pending, Done, Failed}
use Rattle.disk_face.specs.View.{was_polled, Makes, Place, Files, DiskView, files}
use Rattle.disk_face.specs.Calls.{GoesOn, Polled}
use Rattle.log_writer.specs.declared.phase.Operation.{Operation}
use Rattle.log_writer.specs.declared.phase.Phase.{Phase}
use Rattle.log_writer.specs.declared.phase.Phase.TheVariants.{New, InFlight, Idle, Broken}
use Rattle.log_writer.specs.Writer.{Writer}
use Rattle.log_writer.specs.Fits.{Fits, SameFile, IsBusy, HasFlight, place_of_writer}
use Rattle.log_writer.specs.Steps.{after_answer}
use Rattle.failover_writer.specs.Remaining.{polls_left}
use Rattle.log_writer.specs.Steps.{TakesPoll, pending_polls}
use Rattle.failover_writer.specs.State.{State, most_synced, is_broken, phase_is_broken}
use Rattle.failover_writer.specs.Ranges.{StandsFor}
use Rattle.failover_writer.specs.Stepping.{NoneBusy}
use Rattle.failover_writer.specs.Moves.{IsBusyAt, PollsAt, is_pending}
use Rattle.failover_writer.specs.Inside.{IsInOrder}
use Rattle.failover_writer.specs.Keeping.{OthersStay, Passes}
use Rattle.failover_writer.proofs.Accounted.{accounted_set}
use Rattle.failover_writer.proofs.Covers.{rose_by_poll}
use Rattle.failover_writer.proofs.IsSoundJournal.{sound_with, some_records}
use Rattle.failover_writer.proofs.Lists.{split_at, all_append, all_back}
use Rattle.failover_writer.proofs.OneChanged.{SameSegment, same_file, synced_changed, stands_changed}
use Rattle.failover_writer.proofs.Passes.{passes_once, opened_changed}
use Rattle.failover_writer.proofs.PassesOnce.{first_or_last}

pub busy_flight : (phase : Phase) → IsBusy phase → (operation : Operation) × (id : OpId) × (phase ≡ InFlight operation id)
busy_flight New busy = absurd busy
busy_flight (InFlight operation id) busy = (operation, id, refl)
busy_flight Idle busy = absurd busy
busy_flight Broken busy = absurd busy

-- A busy segment is not before those among which none is busy.
pub busy_behind : (writers : List Writer) (n index : ℕ) (w : Writer) → NoneBusy (take n writers) → slice_get writers index ≡ Some w → IsBusy w.phase → n ≤ index
busy_behind [] n index w none is busy = let clash : None ≡ Some w = is in cc
busy_behind (v ∷ writers) zero index w none is busy = omega arith
busy_behind (v ∷ writers) (suc n) zero w none is busy = let same : w ≡ v = cc in absurd (none.0 (subst (λ (u : Writer). IsBusy u.phase) same busy))
busy_behind (v ∷ writers) (suc n) (suc index) w none is busy = let later = busy_behind writers n index w none.1 is busy in omega (arith, later)

pub busy_within : (writers : List Writer) (index : ℕ) (w : Writer) → slice_get writers index ≡ Some w → IsBusy w.phase → NoneBusy writers → ⊥
busy_within [] index w is busy none = let clash : None ≡ Some w = is in cc
busy_within (v ∷ writers) zero w is busy none = let same : w ≡ v = cc in none.0 (subst (λ (u : Writer). IsBusy u.phase) same busy)
busy_within (v ∷ writers) (suc index) w is busy none = busy_within writers index w is busy none.1

pub rest_joined : (writers : List Writer) (n : ℕ) → NoneBusy (take n writers) → NoneBusy (drop n writers) → NoneBusy writers
rest_joined writers n early late = subst (λ (ws : List Writer). NoneBusy ws) (take-append-drop n writers)
    (all_append (λ (w : Writer). IsBusy w.phase → ⊥) (take n writers) (drop n writers) early late)

-- Whether a segment is busy, by what a search of the earlier ones and a look at the current one found.
pub busy_found : (early late : Option ℕ) (seen state : State) (answer : Bool) → seen ≡ state → false ≡ is_some early → answer ≡ is_some late
    → (early ≡ None → NoneBusy (take (length state.segments - 1) state.segments))
    → IfSome late (λ (index : ℕ). (suc index ≡ length seen.segments) × IsBusyAt index seen)
    → (late ≡ None → NoneBusy (drop (length seen.segments - 1) seen.segments))
    → MatchBool answer (NoneBusy state.segments → ⊥) (NoneBusy state.segments)
busy_found (Some index) late seen state answer same is is_late rests found none = absurd (let clash : false ≡ true = is in cc)
busy_found None None seen state answer same is is_late rests found none =
    let late_rests = subst (λ (s : State). NoneBusy (drop (length s.segments - 1) s.segments)) same (none refl) in
    subst (λ (b : Bool). MatchBool b (NoneBusy state.segments → ⊥) (NoneBusy state.segments)) (sym is_late)
    (rest_joined state.segments (length state.segments - 1) (rests refl) late_rests)
busy_found None (Some index) seen state answer same is is_late rests (last, (w, at, busy)) none =
    subst (λ (b : Bool). MatchBool b (NoneBusy state.segments → ⊥) (NoneBusy state.segments)) (sym is_late)
    (busy_within state.segments index w (subst (λ (s : State). slice_get s.segments index ≡ Some w) same at) busy)

-- ---- how many are broken

pub count_head : (w : Writer) (writers : List Writer) → count_by is_broken (w ∷ writers) ≡ cond (is_broken w) 1 0 + count_by is_broken writers
count_head w writers = sum_by-cons (λ (v : Writer). cond (is_broken v) 1 0) w writers

count_at : (front : List Writer) (w : Writer) (back : List Writer)
    → count_by is_broken (front ++ w ∷ back) ≡ count_by is_broken front + (cond (is_broken w) 1 0 + count_by is_broken back)
count_at front w back = sum_by-append (λ (v : Writer). cond (is_broken v) 1 0) front (w ∷ back)
    ∙ ap (λ (n : ℕ). count_by is_broken front + n) (count_head w back)

pub count_same : (front : List Writer) (old new : Writer) (back : List Writer) → is_broken old ≡ false → is_broken new ≡ false
    → count_by is_broken (front ++ new ∷ back) ≡ count_by is_broken (front ++ old ∷ back)
count_same front old new back was now =
    let a : cond {A = ℕ} (is_broken old) 1 0 ≡ 0 = ap {B = ℕ} (λ (b : Bool). cond b 1 0) was in
    let b : cond {A = ℕ} (is_broken new) 1 0 ≡ 0 = ap {B = ℕ} (λ (b : Bool). cond b 1 0) now in
    omega (arith, count_at front old back, count_at front new back, a, b)

pub count_more : (front : List Writer) (old new : Writer) (back : List Writer) → is_broken old ≡ false → is_broken new ≡ true
    → count_by is_broken (front ++ new ∷ back) ≡ count_by is_broken (front ++ old ∷ back) + 1
count_more front old new back was now =
    let a : cond {A = ℕ} (is_broken old) 1 0 ≡ 0 = ap {B = ℕ} (λ (b : Bool). cond b 1 0) was in
    let b : cond {A = ℕ} (is_broken new) 1 0 ≡ 1 = ap {B = ℕ} (λ (b : Bool). cond b 1 0) now in
    omega (arith, count_at front old back, count_at front new back, a, b)

-- ---- one poll

answered_segment : (operation : Operation) (id : OpId) (answer : Progress) (w : Writer) → w.phase ≡ InFlight operation id
    → w.synced ≤ (after_answer operation answer w).synced → SameSegment w (after_answer operation answer w)
answered_segment operation id Pending w is le = record {
  side = refl;
  name = refl;
  from = refl;
  sent = omega arith;
  synced = le;
  begun = λ e. let clash : InFlight operation id ≡ New = sym is ∙ e in cc;
}
answered_segment operation id Done w is le = record {
  side = refl;
  name = refl;
  from = refl;
  sent = omega arith;
  synced = le;
  begun = λ e. let clash : Idle ≡ New = e in cc;
}
answered_segment operation id Failed w is le = record {
  side = refl;
  name = refl;
  from = refl;
  sent = omega arith;
  synced = le;
  begun = λ e. let clash : Broken ≡ New = e in cc;
}

-- The segment at this place is the one that was polled, and this is what its writer is with the answer.
pub record IsAnswered (writers : List Writer) (index : ℕ) (old new : Writer) (operation : Operation) (id : OpId) (answer : Progress) : Type 0 where
  pub at : slice_get writers index ≡ Some old
  pub phase : old.phase ≡ InFlight operation id
  pub answered : new ≡ after_answer operation answer old
  pub synced : old.synced ≤ new.synced

module _ (writers : List Writer) (index : ℕ) (old new : Writer) (operation : Operation) (id : OpId) (answer : Progress)
    (is : IsAnswered writers index old new operation id answer) where
  split : writers ≡ take index writers ++ old ∷ drop (suc index) writers
  split = split_at writers index old is.at

  split_new : set writers index new ≡ take index writers ++ new ∷ drop (suc index) writers
  split_new = set_split writers index new (slice_get_within writers index old is.at)

  segment_same : SameSegment old new
  segment_same = subst (λ (w : Writer). SameSegment old w) (sym is.answered)
      (answered_segment operation id answer old is.phase (subst (λ (w : Writer). old.synced ≤ w.synced) is.answered is.synced))

  was_whole : is_broken old ≡ false
  was_whole = ap phase_is_broken is.phase

  pub same_broken : is_broken new ≡ false → count_by is_broken (set writers index new) ≡ count_by is_broken writers
  same_broken now = ap (count_by is_broken) split_new ∙ count_same (take index writers) old new (drop (suc index) writers) was_whole now
      ∙ ap (count_by is_broken) (sym split)

  pub more_broken : is_broken new ≡ true → count_by is_broken (set writers index new) ≡ count_by is_broken writers + 1
  more_broken now = ap (count_by is_broken) split_new ∙ count_more (take index writers) old new (drop (suc index) writers) was_whole now
      ∙ ap (λ (ws : List Writer). count_by is_broken ws + 1) (sym split)

  pub synced_polled : most_synced 0 (set writers index new) ≡ max (most_synced 0 writers) new.synced
  synced_polled =
      ap (λ (ws : List Writer). most_synced 0 ws) split_new ∙ synced_changed 0 (take index writers) old new
      (drop (suc index) writers) is.synced ∙ ap (λ (ws : List Writer). max (most_synced 0 ws) new.synced) (sym split)

  pub rested_polled : (n : ℕ) → NoneBusy (take n writers) → NoneBusy (take n (set writers index new))
  rested_polled n none =
      subst (λ (ws : List Writer). NoneBusy ws) (sym (take-set-le n writers index new
      (busy_behind writers n index old none is.at (subst (λ (p : Phase). IsBusy p) (sym is.phase) tt)))) none

  -- a segment is broken from a failure on
  pub whole_pending : answer ≡ Pending → is_broken new ≡ false
  whole_pending e = ap is_broken (is.answered ∙ ap (λ (a : Progress). after_answer operation a old) e) ∙ was_whole

  pub whole_done : answer ≡ Done → is_broken new ≡ false
  whole_done e = ap is_broken (is.answered ∙ ap (λ (a : Progress). after_answer operation a old) e)

  pub broken_failed : answer ≡ Failed → is_broken new ≡ true
  broken_failed e = ap is_broken (is.answered ∙ ap (λ (a : Progress). after_answer operation a old) e)

-- A busy segment that was polled, by what its writer says of the answer.
pub answered_at : (state seen : State) (index : ℕ) (old new : Writer) (answer : Progress) → state ≡ seen → IsBusyAt index seen
    → old ≡ get_or state.segments index old
    → ((operation : Operation) (id : OpId) → old.phase ≡ InFlight operation id → new ≡ after_answer operation answer old) → old.synced ≤ new.synced
    → (operation : Operation) × (id : OpId) × IsAnswered state.segments index old new operation id answer
answered_at state seen index old new answer same busy read answered synced =
    let stood = subst (λ (s : State). slice_get s.segments index ≡ Some busy.0) (sym same) busy.1 in
    let here : old ≡ busy.0 = read ∙ get_or_from_slice_get state.segments index busy.0 old stood in
    let flight = busy_flight old.phase (subst (λ (w : Writer). IsBusy w.phase) (sym here) busy.2) in (
      flight.0,
      flight.1,
      record {
        at = stood ∙ ap (λ (w : Writer). Some w) (sym here);
        phase = flight.2;
        answered = answered flight.0 flight.1 flight.2;
        synced = synced;
      },
    )

pub stands_polled : (tells : Bool) (records : List Batch) (state : State) (before after : DiskView) (index : ℕ) (old new : Writer)
    (operation : Operation) (id : OpId) (answer : Progress)
    → IsAnswered state.segments index old new operation id answer → (Fits tells records old before → Fits tells records new after)
    → ((place : Place) → place ≢ place_of_writer old → SameFile tells place before after)
    → StandsFor tells records state before → StandsFor tells records (record state { segments = set state.segments index new }) after
stands_polled tells records state before after index old new operation id answer is fits others stands =
    subst (λ (ws : List Writer). StandsFor tells records (record state { segments = ws }) after)
    (sym (split_new state.segments index old new operation id answer is))
    (stands_changed tells records state before after (take index state.segments) old new (drop (suc index) state.segments)
    (split state.segments index old new operation id answer is)
    (segment_same state.segments index old new operation id answer is) fits others stands)

pub order_polled : (tells : Bool) (state : State) (before after : DiskView) (index : ℕ) (old new : Writer) (operation : Operation)
    (id : OpId) (answer : Progress) (acked_so_far rested_to failures acked_now failures_now : ℕ)
    → IsAnswered state.segments index old new operation id answer
    → ((records : List Batch) → Fits tells records old before → Fits tells records new after)
    → ((place : Place) → place ≢ place_of_writer old → SameFile tells place before after)
    → state.dead ≡ None → IsInOrder tells state before acked_so_far rested_to failures → acked_now ≡ max acked_so_far new.synced
    → failures_now ≡ count_by is_broken (set state.segments index new)
    → IsInOrder tells (record state { segments = set state.segments index new }) after acked_now rested_to failures_now
order_polled tells state before after index old new operation id answer acked_so_far rested_to failures acked_now failures_now is fits
    others lives order acked_is failed_is = record {
      stands = (
        order.stands.0,
        stands_polled tells order.stands.0 state before after index old new operation id answer is
            (fits order.stands.0) others order.stands.1,
      );
      acked = let more = synced_polled state.segments index old new operation id answer is in omega (arith, more, acked_is, order.acked);
      failed = failed_is;
      rested = rested_polled state.segments index old new operation id answer is rested_to order.rested;
      first_busy = omega (arith, order.first_busy, length-set state.segments index new);
      wal = order.wal;
      sound = sound_with state (set state.segments index new) state.left_by_stall lives
          (some_records state order.sound (λ none. let clash : None ≡ Some old = sym (ap (λ (ws : List Writer). slice_get ws index) none)
          ∙ is.at in cc))
          (accounted_set state.segments index old new state.left_by_stall is.at (ap phase_is_broken is.phase) order.sound.accounted) order.sound;
    }

-- A fault more is counted: there are too few segments for the count to stop.
pub failed_polled : (tells : Bool) (state : State) (before : DiskView) (acked_so_far rested_to failures : ℕ)
    → IsInOrder tells state before acked_so_far rested_to failures → failures ≤ 10
failed_polled tells state before acked_so_far rested_to failures order = omega
    (arith, order.failed, count_by-le-length is_broken state.segments, order.stands.1.few)

-- Both sides taken together.
sum_taken : (id : OpId) (answer : Progress) (before after : DiskView) → TakesPoll id answer before after
    → polls_left after + pending_polls answer ≡ polls_left before
sum_taken id answer before after takes = go id.side refl
  where
    go : (side : Side) → id.side ≡ side → polls_left after + pending_polls answer ≡ polls_left before
    go Primary is = omega (
      arith,
      subst (λ (s : Side). after.polls_left s + pending_polls answer ≡ before.polls_left s) is takes.its,
      takes.others Secondary (λ e. let clash : Secondary ≡ Primary = e ∙ is in cc),
    )
    go Secondary is = omega (
      arith,
      subst (λ (s : Side). after.polls_left s + pending_polls answer ≡ before.polls_left s) is takes.its,
      takes.others Primary (λ e. let clash : Primary ≡ Secondary = e ∙ is in cc),
    )

pub polls_at : (tells : Bool) (index : ℕ) (state seen : State) (before seen_before after : DiskView) (old new : Writer)
    (operation : Operation) (id : OpId) (answer : Progress) (pending : Bool) → state ≡ seen → before ≡ seen_before
    → IsAnswered state.segments index old new operation id answer → Polled tells id before after answer → TakesPoll id answer before after
    → Makes (was_polled id answer ∷ []) before after → GoesOn before after → pending ≡ is_pending answer
    → PollsAt tells index seen (record state { segments = set state.segments index new }) seen_before after pending
polls_at tells index state seen before seen_before after old new operation id answer pending same same_disk is polled takes asks goes pending_is =
    subst (λ (s : State). PollsAt tells index s (record state { segments = set state.segments index new }) seen_before after pending) same
    (subst (λ (v : DiskView). PollsAt tells index state (record state { segments = set state.segments index new }) v after pending) same_disk (record {
      writer = old;
      operation = operation;
      id = id;
      answer = answer;
      taken = sum_taken id answer before after takes;
      counted = rose_by_poll tells id answer before after goes polled;
      asks = asks;
      stood = is.at;
      phase = is.phase;
      polled = polled;
      pending_is = pending_is;
      new_is =
          let next : suc index ≡ index + 1 = omega arith in
          ap (λ (ws : List Writer). record state { segments = ws })
          (split_new state.segments index old new operation id answer is
          ∙ ap (λ (w : Writer). take index state.segments ++ w ∷ drop (suc index) state.segments) is.answered
          ∙ ap (λ (n : ℕ). take index state.segments ++ after_answer operation answer old ∷ drop n state.segments) next);
    }))

-- ---- the moments of a poll

-- One moment passes at most.
polled_clock : (tells : Bool) (records : List Batch) (w : Writer) (operation : Operation) (id : OpId) (answer : Progress)
    (before after : DiskView) → Fits tells records w before → w.phase ≡ InFlight operation id → Polled tells id before after answer
    → IsTrue tells → after.clock ≤ suc before.clock
polled_clock tells records w operation id answer before after fits phase polled told = go answer polled
  where
    flies : HasFlight (InFlight operation id) (place_of_writer w) before
    flies = subst (λ (p : Phase). HasFlight p (place_of_writer w) before) phase fits.flight

    go : (a : Progress) → Polled tells id before after a → after.clock ≤ suc before.clock
    go Pending same = omega (arith, same.same.clock)
    go Done done = omega (arith, (done.file told _ flies.here).clock)
    go Failed failed = omega (arith, (failed.file told _ flies.here).clock)

fits_at : (tells : Bool) (records : List Batch) (state : State) (v : DiskView) (index : ℕ) (w : Writer)
    → slice_get state.segments index ≡ Some w → StandsFor tells records state v → Fits tells records w v
fits_at tells records state v index w at stands =
    (all_back (λ (u : Writer). Fits tells records u v) (take index state.segments) (w ∷ drop (suc index) state.segments)
    (subst (λ (ws : List Writer). AllByRecursion (λ (u : Writer). Fits tells records u v) ws) (split_at state.segments index w at) stands.fit)).0

pub passes_polled : (tells : Bool) (state seen : State) (before seen_before after : DiskView) (index : ℕ) (old new : Writer)
    (operation : Operation) (id : OpId) (answer : Progress) → state ≡ seen → before ≡ seen_before
    → IsAnswered state.segments index old new operation id answer → (records : List Batch) × StandsFor tells records state before
    → ((records : List Batch) → Fits tells records old before → Fits tells records new after)
    → ((place : Place) → place ≢ place_of_writer old → SameFile tells place before after) → Polled tells id before after answer → GoesOn before after
    → Passes tells seen (record state { segments = set state.segments index new }) seen_before after
passes_polled tells state seen before seen_before after index old new operation id answer same same_disk is held fits others polled goes =
    subst (λ (s : State). Passes tells s (record state { segments = set state.segments index new }) seen_before after) same
    (subst (λ (v : DiskView). Passes tells state (record state { segments = set state.segments index new }) v after) same_disk
    (passes_once tells state (record state { segments = set state.segments index new }) before after refl refl
    (omega (arith, synced_polled state.segments index old new operation id answer is))
    (λ records stands. stands_polled tells records state before after index old new operation id answer is (fits records) others stands) goes opened
    (λ told. first_or_last before after goes (polled_clock tells held.0 old operation id answer before after
    (fits_at tells held.0 state before index old is.at held.1) is.phase polled told))))
  where
    opened : (opening : Files) → IsTrue tells → OthersStay opening state (files before)
        → OthersStay opening (record state { segments = set state.segments index new }) (files after)
    opened opening told was =
        subst (λ (ws : List Writer). OthersStay opening (record state { segments = ws }) (files after))
        (sym (split_new state.segments index old new operation id answer is))
        (opened_changed tells opening state before after (take index state.segments) old new (drop (suc index) state.segments)
        (split state.segments index old new operation id answer is)
        (same_file old new (segment_same state.segments index old new operation id answer is)) others told was)
