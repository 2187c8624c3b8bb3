-- The polls of one step: of the first busy segment before the current one, and then of the current one.
use Rattle.std.proofs.Common.{◌≡◌, ◌⊎◌, inl, inr, ℕ, zero, suc, ◌+◌, ◌-◌, ◌<◌, ◌≤◌, Bool, false, List, [], ◌∷◌, ◌++◌, length, take, drop, Option, Some, None, ap, sym, subst, ◌∙◌, refl, arith, append_assoc}
use Rattle.std.proofs.Math.Nat.{le_trans}
use Rattle.std.specs.Prelude.{◌||◌, slice_get, get_or}
use Rattle.std.proofs.lemmas.List.{take-append-le, drop-append-le, take_at, drop_at, drop_all, length-take, length-append}
use Rattle.std.proofs.lemmas.Option.{slice_get-get_or}
use Rattle.disk_face.specs.declared.OpId.{OpId}
use Rattle.disk_face.specs.declared.Progress.{Progress}
use Rattle.disk_face.specs.declared.Progress.TheVariants.{Pending, Done, Failed}
use Rattle.disk_face.specs.Calls.{GoesOn, Polled}
use Rattle.disk_face.specs.View.{Call, was_polled, Makes, DiskView}
use Rattle.disk_face.proofs.Laws.{rose_later, goes_on_from}
use Rattle.log_writer.specs.declared.phase.Operation.{Operation}
use Rattle.log_writer.specs.declared.phase.Phase.TheVariants.{InFlight}
use Rattle.log_writer.specs.Writer.{Writer}
use Rattle.log_writer.specs.Fits.{IsBusy}
use Rattle.log_writer.specs.Steps.{after_answer}
use Rattle.failover_writer.specs.Remaining.{polls_left}
use Rattle.failover_writer.specs.Answered.{pending_count, failed_polls, failed_count, RoseBy}
use Rattle.failover_writer.specs.State.{State, JournalView}
use Rattle.failover_writer.specs.Keeping.{Passes}
use Rattle.failover_writer.specs.Stepping.{NoneBusy, PollsFirst, Polls, calls_of_poll, calls_of_polls}
use Rattle.failover_writer.specs.Stepping as stepping
use Rattle.failover_writer.specs.Answered.{IsTold}
use Rattle.failover_writer.specs.Moves.{IsFirstBusy, PollsAt, PollsAll, was_pending}
use Rattle.failover_writer.proofs.Covers.{rose_by_none, rose_by_more, rose_by_as}
use Rattle.failover_writer.proofs.Lists.{split_at, last_split}
use Rattle.failover_writer.proofs.Passes.{Holds, passes_still, passes_further}

-- The first busy one of the earlier segments was polled, if one is, and the current one was not yet.
pub record IsPolledEarly (state mid : State) (one : Option Progress) : Type 0 where
  pub earlier : List Writer
  pub polled : List Writer
  pub current : Writer
  pub were : state.segments ≡ earlier ++ current ∷ []
  pub first : PollsFirst earlier one polled
  pub calls : List Call
  pub calls_are : calls_of_poll first ≡ calls
  pub now : mid ≡ record state { segments = polled ++ current ∷ [] }

pub none_early : (state : State) (current : Writer) → slice_get state.segments (length state.segments - 1) ≡ Some current
    → NoneBusy (take (length state.segments - 1) state.segments) → IsPolledEarly state state None
none_early state current is none = record {
  earlier = take (length state.segments - 1) state.segments;
  polled = take (length state.segments - 1) state.segments;
  current = current;
  were = last_split state.segments current is;
  first = stepping.none (take (length state.segments - 1) state.segments) none;
  calls = [];
  calls_are = refl;
  now = ap (λ (ws : List Writer). record state { segments = ws }) (last_split state.segments current is);
}

in_front : (front : List Writer) (w : Writer) (index : ℕ) (x : Writer) → index < length front → slice_get (front ++ w ∷ []) index ≡ Some x
    → slice_get front index ≡ Some x
in_front [] w index x below is = absurd (omega (arith, below))
in_front (v ∷ front) w zero x below is = is
in_front (v ∷ front) w (suc index) x below is = in_front front w index x (omega (arith, below)) is

first_at : (writers : List Writer) (index : ℕ) (w : Writer) (operation : Operation) (id : OpId) (answer : Progress)
    → NoneBusy (take index writers) → slice_get writers index ≡ Some w → w.phase ≡ InFlight operation id
    → (polls : PollsFirst writers (Some answer) (take index writers ++ after_answer operation answer w ∷ drop (suc index) writers))
    × (calls_of_poll polls ≡ was_polled id answer ∷ [])
first_at writers index w operation id answer none is phase =
    let left : List Writer = take index writers ++ after_answer operation answer w ∷ drop (suc index) writers in
    subst (λ (ws : List Writer). (polls : PollsFirst ws (Some answer) left) × (calls_of_poll polls ≡ was_polled id answer ∷ []))
    (sym (split_at writers index w is))
    (stepping.polled (take index writers) w (drop (suc index) writers) operation id answer none phase, refl)

spliced : (front : List Writer) (last : Writer) (index : ℕ) (x : Writer) → index < length front
    → take index (front ++ last ∷ []) ++ x ∷ drop (index + 1) (front ++ last ∷ []) ≡ (take index front ++ x ∷ drop (suc index) front) ++
    last ∷ []
spliced front last index x below =
    let next : index + 1 ≡ suc index = omega arith in
    ap (λ (ws : List Writer). ws ++ x ∷ drop (index + 1) (front ++ last ∷ [])) (take-append-le index front (last ∷ []) (omega (arith, below)))
    ∙ ap (λ (n : ℕ). take index front ++ x ∷ drop n (front ++ last ∷ [])) next
    ∙ ap (λ (ws : List Writer). take index front ++ x ∷ ws) (drop-append-le (suc index) front (last ∷ []) (omega (arith, below)))
    ∙ sym (append_assoc (take index front) (x ∷ drop (suc index) front) (last ∷ []))

pub one_early : (tells : Bool) (state mid : State) (before after : DiskView) (index : ℕ) (pending : Bool) (current : Writer)
    → slice_get state.segments (length state.segments - 1) ≡ Some current → index < length state.segments - 1
    → NoneBusy (take index state.segments) → (polls : PollsAt tells index state mid before after pending) → IsPolledEarly state mid (Some polls.answer)
one_early tells state mid before after index pending current is below none polls =
    let front = take (length state.segments - 1) state.segments in
    let were : state.segments ≡ take (length state.segments - 1) state.segments ++ current ∷ [] = last_split state.segments current is in
    let long : length (take (length state.segments - 1) state.segments) ≡ length state.segments - 1 = omega
    (arith, length-take (length state.segments - 1) state.segments) in
    let first =
    first_at front index polls.writer polls.operation polls.id polls.answer
    (subst (λ (ws : List Writer). NoneBusy ws) (ap (λ (ws : List Writer). take index ws) were
    ∙ take-append-le index front (current ∷ []) (omega (arith, below, long))) none)
    (in_front front current index polls.writer (omega (arith, below, long))
    (subst (λ (ws : List Writer). slice_get ws index ≡ Some polls.writer) were polls.stood)) polls.phase in
    record {
      earlier = front;
      polled = take index front ++ after_answer polls.operation polls.answer polls.writer ∷ drop (suc index) front;
      current = current;
      were = were;
      first = first.0;
      calls = was_polled polls.id polls.answer ∷ [];
      calls_are = first.1;
      now =
          polls.new_is ∙ ap (λ (ws : List Writer). record state { segments = ws })
          (ap (λ (ws : List Writer). take index ws ++ after_answer polls.operation polls.answer polls.writer ∷ drop (index + 1) ws) were
          ∙ spliced front current index (after_answer polls.operation polls.answer polls.writer) (omega (arith, below, long)));
    }

last_at : (front : List Writer) (w : Writer) → slice_get (front ++ w ∷ []) (length (front ++ w ∷ []) - 1) ≡ Some w
last_at front w = at_length front w (length (front ++ w ∷ []) - 1) (omega (arith, length-append front (w ∷ [])))
  where
    at_length : (ws : List Writer) (x : Writer) (n : ℕ) → n ≡ length ws → slice_get (ws ++ x ∷ []) n ≡ Some x
    at_length [] x n is = subst (λ (k : ℕ). slice_get (x ∷ []) k ≡ Some x) (sym is) refl
    at_length (v ∷ ws) x n is = subst (λ (k : ℕ). slice_get (v ∷ (ws ++ x ∷ [])) k ≡ Some x) (sym is) (at_length ws x (length ws) refl)

-- The current segment is at rest, and is not polled.
pub none_late : (state mid : State) (one : Option Progress) (current : Writer) → (early : IsPolledEarly state mid one)
    → slice_get mid.segments (length mid.segments - 1) ≡ Some current → (IsBusy current.phase → ⊥)
    → (polls : Polls state one None mid) × (calls_of_polls polls ≡ early.calls)
none_late state mid one current early is rests =
    let seen : slice_get (early.polled ++ early.current ∷ []) (length (early.polled ++ early.current ∷ []) - 1) ≡ Some current = subst
    (λ (s : State). slice_get s.segments (length s.segments - 1) ≡ Some current) early.now is in
    let here : Some current ≡ Some early.current = sym seen ∙ last_at early.polled early.current in
    let same : current ≡ early.current = cc in
    subst (λ (s : State). (polls : Polls state one None s) × (calls_of_polls polls ≡ early.calls)) (sym early.now) (
      stepping.asked early.earlier early.current one None early.polled early.current early.were early.first
          (stepping.none (early.current ∷ []) (subst (λ (w : Writer). IsBusy w.phase → ⊥) same rests, tt)),
      early.calls_are,
    )

-- The current segment is polled.
pub one_late : (tells : Bool) (state mid new : State) (before after : DiskView) (one : Option Progress) (index : ℕ) (pending : Bool)
    → (early : IsPolledEarly state mid one) → index ≡ length mid.segments - 1
    → (polls : PollsAt tells index mid new before after pending)
    → (all : Polls state one (Some polls.answer) new) × (calls_of_polls all ≡ was_polled polls.id polls.answer ∷ early.calls)
one_late tells state mid new before after one index pending early at polls =
    let stood : slice_get mid.segments (length mid.segments - 1) ≡ Some polls.writer = subst
    (λ (n : ℕ). slice_get mid.segments n ≡ Some polls.writer) at polls.stood in
    let seen : slice_get (early.polled ++ early.current ∷ []) (length (early.polled ++ early.current ∷ []) - 1) ≡ Some polls.writer = subst
    (λ (s : State). slice_get s.segments (length s.segments - 1) ≡ Some polls.writer) early.now stood in
    let here : Some polls.writer ≡ Some early.current = sym seen ∙ last_at early.polled early.current in
    let same : polls.writer ≡ early.current = cc in
    let segments : mid.segments ≡ early.polled ++ early.current ∷ [] = ap (λ (s : State). s.segments) early.now in
    let place : index ≡ length early.polled = omega (
      arith,
      at,
      ap (λ (ws : List Writer). length ws) segments,
      length-append early.polled (early.current ∷ []),
    ) in
    let behind : length (early.polled ++ early.current ∷ []) ≤ index + 1 = omega (arith, place, length-append early.polled (early.current ∷ [])) in
    let left = after_answer polls.operation polls.answer early.current in
    let becomes : new ≡ record state { segments = early.polled ++ after_answer polls.operation polls.answer early.current ∷ [] } =
    polls.new_is ∙ ap (λ (s : State). record s {
      segments = take index s.segments ++ after_answer polls.operation polls.answer polls.writer
          ∷ drop (index + 1) s.segments;
    }) early.now
    ∙ ap (λ (w : Writer). record state {
      segments = take index (early.polled ++ early.current ∷ []) ++ after_answer polls.operation
          polls.answer w ∷ drop (index + 1) (early.polled ++ early.current ∷ []);
    }) same
    ∙ ap (λ (ws : List Writer). record state {
      segments = ws ++ after_answer polls.operation polls.answer early.current ∷ drop (index + 1)
          (early.polled ++ early.current ∷ []);
    })
    (take_at early.polled (early.current ∷ []) index (sym place))
    ∙ ap (λ (ws : List Writer). record state { segments = early.polled ++ after_answer polls.operation polls.answer early.current ∷ ws })
    (drop_all (index + 1) (early.polled ++ early.current ∷ []) behind) in
    subst (λ (s : State). (all : Polls state one (Some polls.answer) s) × (calls_of_polls all ≡ was_polled polls.id polls.answer ∷ early.calls))
    (sym becomes) (
      stepping.asked early.earlier early.current one (Some polls.answer) early.polled left early.were early.first
          (stepping.polled [] early.current [] polls.operation polls.id polls.answer tt
          (subst (λ (w : Writer). w.phase ≡ InFlight polls.operation polls.id) same polls.phase)),
      ap (λ (calls : List Call). was_polled polls.id polls.answer ∷ calls) early.calls_are,
    )

-- ---- what the polls tell

told_at : (tells : Bool) (id : OpId) (answer : Progress) (before after : DiskView) → Polled tells id before after answer → IsTold before after (Some answer)
told_at tells id Pending before after polled = (id.side, omega (arith, polled.fell))
told_at tells id Done before after polled = tt
told_at tells id Failed before after polled = (id.side, polled.rose)

-- What a poll told, it tells after later calls too.
pub told_earlier : (before between after : DiskView) (answer : Option Progress) → GoesOn between after → IsTold before between answer
    → IsTold before after answer
told_earlier before between after None goes told = tt
told_earlier before between after (Some Pending) goes told = (told.0, omega (arith, goes.polls told.0, told.1))
told_earlier before between after (Some Done) goes told = tt
told_earlier before between after (Some Failed) goes told = (told.0, le_trans told.1 (goes.faults told.0))

told_later : (before between after : DiskView) (answer : Option Progress) → GoesOn before between → IsTold between after answer → IsTold before after answer
told_later before between after None goes told = tt
told_later before between after (Some Pending) goes told = (told.0, omega (arith, goes.polls told.0, told.1))
told_later before between after (Some Done) goes told = tt
told_later before between after (Some Failed) goes told = (
  told.0,
  rose_later (before.faults told.0) (between.faults told.0)
      (after.faults told.0) (goes.faults told.0) told.1,
)

-- ---- both polls

-- What the first of the two polls did, where a segment is begun, and whether it was pending.
pub record PollsEarly (state mid : State) (before between : DiskView) (pending : Bool) : Type 0 where
  pub one : Option Progress
  pub calls : List Call
  pub early : ((state.segments ≡ []) × (mid ≡ state) × (one ≡ None) × (calls ≡ [])) ⊎ ((polls : IsPolledEarly state mid one) × (polls.calls ≡ calls))
  pub told : IsTold before between one
  pub taken : polls_left between + pending_count one ≡ polls_left before
  pub counted : RoseBy (failed_count one) before between
  pub asks : Makes calls before between
  pub pending_is : pending ≡ was_pending one

parted : (ws : List Writer) → (ws ≡ []) ⊎ ((w : Writer) × (slice_get ws (length ws - 1) ≡ Some w))
parted [] = inl refl
parted (w ∷ ws) = inr (get_or (w ∷ ws) (length (w ∷ ws) - 1) w, slice_get-get_or (w ∷ ws) (length (w ∷ ws) - 1) w (omega arith))

pub early_none : (state : State) (v : DiskView) → NoneBusy (take (length state.segments - 1) state.segments) → PollsEarly state state v v false
unfolding none_early
early_none state v none = record { one = None; calls = []; early = go (parted state.segments); told = tt; taken = omega arith; counted = rose_by_none v v (goes_on_from v); asks = refl; pending_is = refl }
  where
    go : (state.segments ≡ []) ⊎ ((w : Writer) × (slice_get state.segments (length state.segments - 1) ≡ Some w))
        → ((state.segments ≡ []) × (state ≡ state) × (◌≡◌ {A = Option Progress} None None) × (◌≡◌ {A = List Call} [] []))
        ⊎ ((polls : IsPolledEarly state state None) × (polls.calls ≡ []))
    go (inl empty) = inl (empty, refl, refl, refl)
    go (inr (w, is)) = inr (none_early state w is none, refl)

pub early_one : (tells : Bool) (state mid : State) (before between : DiskView) (index : ℕ) (pending : Bool) → IsFirstBusy index state
    → PollsAt tells index state mid before between pending → PollsEarly state mid before between pending
unfolding one_early
early_one tells state mid before between index pending first polls = record {
  one = Some polls.answer;
  calls = was_polled polls.id polls.answer ∷ [];
  early = go (parted state.segments);
  told = told_at tells polls.id polls.answer before between polls.polled;
  taken = polls.taken;
  counted = polls.counted;
  asks = polls.asks;
  pending_is = polls.pending_is;
}
  where
    go : (state.segments ≡ []) ⊎ ((w : Writer) × (slice_get state.segments (length state.segments - 1) ≡ Some w))
        → ((state.segments ≡ []) × (mid ≡ state) × (Some polls.answer ≡ None) × (was_polled polls.id polls.answer ∷ [] ≡ []))
        ⊎ ((early : IsPolledEarly state mid (Some polls.answer)) × (early.calls ≡ was_polled polls.id polls.answer ∷ []))
    go (inl empty) = absurd (omega (arith, first.before_current, ap (λ (ws : List Writer). length ws) empty))
    go (inr (w, is)) = inr (one_early tells state mid before between index pending w is first.before_current first.first polls, refl)

-- The current segment is at rest, and is not polled.
pub all_none : (state mid : State) (before between : DiskView) (pending : Bool) → PollsEarly state mid before between pending
    → NoneBusy (drop (length mid.segments - 1) mid.segments) → PollsAll state mid before between (pending || false)
all_none state mid before between pending early none = record {
  one = early.one;
  other = None;
  polls = (go early.one early.calls early.early).0;
  one_told = early.told;
  other_told = tt;
  taken = omega (arith, early.taken);
  counted = rose_by_as (failed_count early.one) (failed_count early.one + 0) before between (omega arith) early.counted;
  asks = subst (λ (calls : List Call). Makes calls before between) (sym (go early.one early.calls early.early).1) early.asks;
  pending_is = ap (λ (b : Bool). b || false) early.pending_is;
}
  where
    go : (one : Option Progress) (calls : List Call)
        → ((state.segments ≡ []) × (mid ≡ state) × (one ≡ None) × (calls ≡ [])) ⊎ ((polls : IsPolledEarly state mid one) × (polls.calls ≡ calls))
        → (polls : Polls state one None mid) × (calls_of_polls polls ≡ calls)
    go one calls (inl (empty, same, is, no_calls)) =
        subst (λ (s : State). (polls : Polls state one None s) × (calls_of_polls polls ≡ calls)) (sym same)
        (subst (λ (o : Option Progress). (polls : Polls state o None state) × (calls_of_polls polls ≡ calls)) (sym is)
        (stepping.nothing_begun empty, sym no_calls))
    go one calls (inr (polled, calls_are)) =
        let segments : mid.segments ≡ polled.polled ++ polled.current ∷ [] = ap (λ (s : State). s.segments) polled.now in
        let place : length polled.polled ≡ length (polled.polled ++ polled.current ∷ []) - 1 = omega
        (arith, length-append polled.polled (polled.current ∷ [])) in
        let rests = subst (λ (ws : List Writer). NoneBusy (drop (length ws - 1) ws)) segments none in
        let late =
        none_late state mid one polled.current polled (subst (λ (ws : List Writer). slice_get ws (length ws - 1) ≡ Some polled.current)
        (sym segments) (last_at polled.polled polled.current))
        (subst (λ (ws : List Writer). NoneBusy ws) (drop_at polled.polled (polled.current ∷ [])
        (length (polled.polled ++ polled.current ∷ []) - 1) place) rests).0 in
        (late.0, late.1 ∙ calls_are)

-- The current segment is polled.
pub all_one : (tells : Bool) (state mid new : State) (before between after : DiskView) (index : ℕ) (pending pending_now : Bool)
    → PollsEarly state mid before between pending → suc index ≡ length mid.segments
    → PollsAt tells index mid new between after pending_now → GoesOn before between → GoesOn between after
    → PollsAll state new before after (pending || pending_now)
all_one tells state mid new before between after index pending pending_now early at polls goes goes_later = record {
  one = early.one;
  other = Some polls.answer;
  polls = (go early.one early.calls early.early).0;
  one_told = told_earlier before between after early.one goes_later early.told;
  other_told = told_later before between after (Some polls.answer) goes (told_at tells polls.id polls.answer between after polls.polled);
  taken = omega (arith, early.taken, polls.taken);
  counted = rose_by_more (failed_count early.one) (failed_polls polls.answer) before between after early.counted polls.counted goes_later;
  asks = subst (λ (calls : List Call). Makes calls before after) (sym (go early.one early.calls early.early).1)
      (polls.asks ∙ ap (λ (calls : List Call). was_polled polls.id polls.answer ∷ calls) early.asks);
  pending_is = ap (λ (b : Bool). b || pending_now) early.pending_is ∙ ap (λ (b : Bool). was_pending early.one || b) polls.pending_is;
}
  where
    go : (one : Option Progress) (calls : List Call)
        → ((state.segments ≡ []) × (mid ≡ state) × (one ≡ None) × (calls ≡ [])) ⊎ ((early : IsPolledEarly state mid one) × (early.calls ≡ calls))
        → (all : Polls state one (Some polls.answer) new) × (calls_of_polls all ≡ was_polled polls.id polls.answer ∷ calls)
    go one calls (inl (empty, same, is, no_calls)) =
        absurd (omega (arith, at, ap (λ (s : State). length s.segments) same, ap (λ (ws : List Writer). length ws) empty))
    go one calls (inr (polled, calls_are)) =
        let all = one_late tells state mid new between after one index pending_now polled (omega (arith, at)) polls in
        (all.0, all.1 ∙ ap (λ (calls : List Call). was_polled polls.id polls.answer ∷ calls) calls_are)

-- ---- a journal with its disk

-- What a part of a step does to the journal and its disk.
pub record GoesPart (tells : Bool) (old new : State) (before after : DiskView) : Type 0 where
  pub keeps : Holds tells old before new after
  pub passes : Passes tells old new before after
  pub goes : GoesOn before after

-- The first of the two polls was made or not.
pub record GoesEarly (tells : Bool) (old new : State) (before after : DiskView) (pending : Bool) : Type 0 where
  pub polls : PollsEarly old new before after pending
  pub part : GoesPart tells old new before after

-- Both polls were made or not.
pub record GoesBoth (tells : Bool) (old new : State) (before after : DiskView) (pending : Bool) : Type 0 where
  pub polls : PollsAll old new before after pending
  pub passes : Passes tells old new before after

part_still : (tells : Bool) (state : State) (v : DiskView) → GoesPart tells state state v v
part_still tells state v = record { keeps = λ records stands. stands; passes = passes_still tells state state v refl refl refl; goes = goes_on_from v }

module _ {D : Type 0} (tells : Bool) (view : D → DiskView) where
  pub early_not : (old now : JournalView D) (early : Bool) → now ≡ old → early ≡ false
      → NoneBusy (take (length old.state.segments - 1) old.state.segments)
      → GoesEarly tells old.state now.state (view old.disk) (view now.disk) early
  early_not old now early same is none =
      subst (λ (h : JournalView D). GoesEarly tells old.state h.state (view old.disk) (view h.disk) early) (sym same)
      (subst (λ (b : Bool). GoesEarly tells old.state old.state (view old.disk) (view old.disk) b) (sym is)
      (record { polls = early_none old.state (view old.disk) none; part = part_still tells old.state (view old.disk) }))

  pub early_made : (old seen now then : JournalView D) (early pending : Bool) (index : ℕ) → seen ≡ old → now ≡ then → early ≡ pending
      → IsFirstBusy index old.state
      → PollsAt tells index seen.state then.state (view seen.disk) (view then.disk) pending
      → GoesPart tells seen.state then.state (view seen.disk) (view then.disk)
      → GoesEarly tells old.state now.state (view old.disk) (view now.disk) early
  early_made old seen now then early pending index same same_now is first polls part =
      subst (λ (h : JournalView D). GoesEarly tells h.state now.state (view h.disk) (view now.disk) early) same
      (subst (λ (h : JournalView D). GoesEarly tells seen.state h.state (view seen.disk) (view h.disk) early) (sym same_now)
      (subst (λ (b : Bool). GoesEarly tells seen.state then.state (view seen.disk) (view then.disk) b) (sym is)
      (record {
        polls = early_one tells seen.state then.state (view seen.disk) (view then.disk) index pending
            (subst (λ (h : JournalView D). IsFirstBusy index h.state) (sym same) first) polls;
        part = part;
      })))

  pub late_not : (old mid now : JournalView D) (early late : Bool)
      → GoesEarly tells old.state mid.state (view old.disk) (view mid.disk) early → now ≡ mid → late ≡ false
      → NoneBusy (drop (length mid.state.segments - 1) mid.state.segments) → GoesBoth tells old.state now.state (view old.disk) (view now.disk) (early || late)
  late_not old mid now early late went same is none =
      subst (λ (h : JournalView D). GoesBoth tells old.state h.state (view old.disk) (view h.disk) (early || late)) (sym same)
      (subst (λ (b : Bool). GoesBoth tells old.state mid.state (view old.disk) (view mid.disk) (early || b)) (sym is)
      (record { polls = all_none old.state mid.state (view old.disk) (view mid.disk) early went.polls none; passes = went.part.passes }))

  pub late_made : (old mid now then : JournalView D) (early late pending : Bool) (index : ℕ)
      → GoesEarly tells old.state mid.state (view old.disk) (view mid.disk) early → now ≡ then → late ≡ pending
      → suc index ≡ length mid.state.segments → PollsAt tells index mid.state then.state (view mid.disk) (view then.disk) pending
      → GoesPart tells mid.state then.state (view mid.disk) (view then.disk)
      → GoesBoth tells old.state now.state (view old.disk) (view now.disk) (early || late)
  late_made old mid now then early late pending index went same is at polls part =
      subst (λ (h : JournalView D). GoesBoth tells old.state h.state (view old.disk) (view h.disk) (early || late)) (sym same)
      (subst (λ (b : Bool). GoesBoth tells old.state then.state (view old.disk) (view then.disk) (early || b)) (sym is)
      (record {
        polls = all_one tells old.state mid.state then.state (view old.disk) (view mid.disk) (view then.disk) index early pending went.polls
            at polls went.part.goes part.goes;
        passes = passes_further tells old.state mid.state then.state (view old.disk) (view mid.disk)
            (view then.disk) went.part.keeps part.goes went.part.passes part.passes;
      }))
