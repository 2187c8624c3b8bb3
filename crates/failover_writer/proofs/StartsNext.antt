-- Where the current segment starts an operation, its writer stands in its place, and the others stay as they are.
use Rattle.std.proofs.Common.{◌≡◌, ◌≢◌, ℕ, suc, ◌+◌, ◌≤◌, Bool, false, List, [], ◌∷◌, ◌++◌, length, map, take, Option, Some, None, IsTrue, ap, sym, subst, ◌∙◌, refl, arith, cond}
use Rattle.std.specs.Prelude.{Contains, count_by, slice_set, get_or}
use Rattle.std.specs.List.{AllByRecursion}
use Rattle.std.proofs.lemmas.List.{length-append, length-drop, map-append, take-append-le}
use Rattle.std.proofs.lemmas.List.Elements.{Contains-push}
use Rattle.disk_face.specs.declared.OpId.{OpId}
use Rattle.disk_face.specs.declared.Side.{Side}
use Rattle.disk_face.specs.View.{Place, segment, Flight, Files, DiskView, files}
use Rattle.disk_face.specs.Calls.{GoesOn}
use Rattle.batch_repr.specs.declared.batch.Batch.{Batch}
use Rattle.log_writer.specs.declared.goal.Goal.{Goal}
use Rattle.log_writer.specs.declared.phase.Operation.{Operation}
use Rattle.log_writer.specs.declared.phase.Operation.TheVariants.{Create, Write, Sync}
use Rattle.log_writer.specs.declared.phase.Phase.{Phase}
use Rattle.log_writer.specs.declared.phase.Phase.TheVariants.{New, InFlight, Idle, Broken}
use Rattle.log_writer.specs.Writer.{Writer}
use Rattle.log_writer.specs.Fits.{Fits, IsUnsent, SameFile, IsBusy, place_of_writer, act_of}
use Rattle.log_writer.specs.Steps.{HoldsPart, BeginsJust, next_operation, sent_with}
use Rattle.failover_writer.specs.State.{State, len, acked, most_synced, is_broken, phase_is_broken}
use Rattle.failover_writer.specs.Ranges.{AreJoined, sent_to_current, StandsFor, Stands}
use Rattle.failover_writer.specs.Inside.{IsInOrder}
use Rattle.failover_writer.specs.Stepping.{IsBehind, StartsNext, NoneBusy}
use Rattle.failover_writer.specs.Moves.{NoneRests, MayStartNext, started, nothing}
use Rattle.failover_writer.specs.Keeping.{OthersStay, Passes}
use Rattle.failover_writer.specs.Sound.{AreAccounted}
use Rattle.failover_writer.proofs.Accounted.{accounted_last}
use Rattle.failover_writer.proofs.IsSoundJournal.{sound_with, some_records}
use Rattle.failover_writer.proofs.Segments.{place_at, index_in, index_is, apart_from_last, all_push, all_front, all_last, joined_front, joined_push, last_is, fit_beside, most_synced_push, sent_to_last, count_push}
use Rattle.failover_writer.proofs.BeginsNext.{alone_with, none_flies}
use Rattle.failover_writer.proofs.Passes.{passes_once}
use Rattle.failover_writer.proofs.PassesOnce.{first_or_last}

-- ---- the last of a list

-- the last of a list, or this where it has none
abbrev last_or : Writer → List Writer → Writer
last_or none [] = none
last_or none (w ∷ ws) = last_or w ws

last_or_push : (none : Writer) (ws : List Writer) (w : Writer) → last_or none (ws ++ w ∷ []) ≡ w
last_or_push none [] w = refl
last_or_push none (u ∷ ws) w = last_or_push u ws w

pub last_same : (xs ys : List Writer) (x y : Writer) → xs ++ x ∷ [] ≡ ys ++ y ∷ [] → x ≡ y
last_same xs ys x y e = sym (last_or_push x xs x) ∙ ap (last_or x) e ∙ last_or_push x ys y

pub set_last : (xs : List Writer) (x y : Writer) → slice_set (xs ++ x ∷ []) (length xs) y ≡ xs ++ y ∷ []
set_last [] x y = refl
set_last (a ∷ xs) x y = ap (λ (l : List Writer). a ∷ l) (set_last xs x y)

at_end : (ws : List Writer) (w d : Writer) → get_or (ws ++ w ∷ []) (length ws) d ≡ w
at_end [] w d = refl
at_end (u ∷ ws) w d = at_end ws w d

-- What stands at the last place is the last.
pub element_is : (ws earlier : List Writer) (current w : Writer) (last : ℕ) → ws ≡ earlier ++ current ∷ [] → last ≡ length earlier
    → w ≡ get_or ws last w → w ≡ current
element_is ws earlier current w last is at read = read ∙ ap (λ (l : List Writer). get_or l last w) is
    ∙ ap (λ (n : ℕ). get_or (earlier ++ current ∷ []) n w) at ∙ at_end earlier current w

pub set_at_last : (ws earlier : List Writer) (current w : Writer) (last : ℕ) → ws ≡ earlier ++ current ∷ [] → last ≡ length earlier
    → slice_set ws last w ≡ earlier ++ w ∷ []
set_at_last ws earlier current w last is at =
    ap (λ (l : List Writer). slice_set l last w) is ∙ ap (λ (n : ℕ). slice_set (earlier ++ current ∷ []) n w) at ∙ set_last earlier current w

-- ---- where nothing starts

pub none_starts : (state : State) (v : DiskView) → NoneRests state.segments → MayStartNext state v v state
none_starts state v none = nothing (λ _ new starts. go starts starts.current.phase refl starts.next) refl
  where
    go : {new : State} (starts : StartsNext state new) (phase : Phase) → starts.current.phase ≡ phase
        → next_operation phase starts.current.written (record { len = len state; want = state.want; acked = acked state }) ≡ Some starts.operation → ⊥
    go starts New is next = let clash : New ≡ Broken = sym is ∙ none starts.earlier starts.current starts.segments_are (λ busy. subst IsBusy is busy) in cc
    go starts (InFlight operation id) is next = cc
    go starts Idle is next = let clash : Idle ≡ Broken = sym is ∙ none starts.earlier starts.current starts.segments_are (λ busy. subst IsBusy is busy) in cc
    go starts Broken is next = cc

pub not_behind : (state : State) (v : DiskView) → (IsBehind state → ⊥) → MayStartNext state v v state
not_behind state v none = nothing (λ behind new starts. none behind) refl

-- ---- a writer at rest, and what it starts

pub not_broken : (phase : Phase) → phase ≢ Broken → phase_is_broken phase ≡ false
not_broken New ne = refl
not_broken (InFlight operation id) ne = refl
not_broken Idle ne = refl
not_broken Broken ne = absurd (ne refl)

none_broken : (w : Writer) → w.phase ≢ Broken → count_by is_broken (w ∷ []) ≡ 0
none_broken w ne = ap (λ (b : Bool). 0 + cond b 1 0) (not_broken w.phase ne)

module _ (tells : Bool) (state : State) (old new : DiskView) (earlier : List Writer) (current next : Writer)
    (is : state.segments ≡ earlier ++ current ∷ []) where
  abbrev after : State
  after = record state { segments = earlier ++ next ∷ [] }

  -- What an operation leaves of its writer.
  pub record KeepsPlace : Type 0 where
    pub side : next.side ≡ current.side
    pub name : next.name ≡ current.name
    pub from : next.from ≡ current.from
    pub synced : next.synced ≡ current.synced
    pub sent : current.sent ≤ next.sent
    pub begun : next.phase ≢ New
    pub whole : next.phase ≢ Broken

  joined_was : AreJoined state.wal 0 0 state.segments → AreJoined state.wal 0 0 (earlier ++ current ∷ [])
  joined_was joined = subst (AreJoined state.wal 0 0) is joined

  acked_same : KeepsPlace → acked after ≡ acked state
  acked_same keeps = omega (arith, most_synced_push 0 earlier next, most_synced_push 0 earlier current, ap (most_synced 0) is, keeps.synced)

  places_same : KeepsPlace → map place_of_writer after.segments ≡ map place_of_writer state.segments
  places_same keeps =
      let here : place_of_writer next ≡ place_of_writer current = ap (λ (s : Side). segment s next.name) keeps.side ∙ ap (segment current.side) keeps.name in
      map-append place_of_writer earlier (next ∷ []) ∙ ap (λ (p : Place). map place_of_writer earlier ++ p ∷ []) here
      ∙ sym (map-append place_of_writer earlier (current ∷ [])) ∙ sym (ap (map place_of_writer) is)

  pub kept_stands : KeepsPlace → ((place : Place) → place ≢ place_of_writer current → SameFile tells place old new)
      → ((id : OpId) (f : Flight) → new.in_flight id ≡ Some f → Contains (map place_of_writer state.segments) f.place)
      → (records : List Batch) → StandsFor tells records state old → Fits tells records next new → StandsFor tells records after new
  kept_stands keeps others alone records stands fits =
      let joined = joined_was stands.joined in
      let last = last_is state.wal 0 0 earlier current joined in
      record {
        named = stands.named;
        numbered = stands.numbered;
        spelled = stands.spelled;
        next = stands.next;
        queue = stands.queue;
        queued = omega (
          arith,
          stands.queued,
          acked_same keeps,
          sent_to_last 0 earlier next,
          sent_to_last 0 earlier current,
          ap (sent_to_current 0) is,
          keeps.sent,
        );
        want = stands.want;
        few = omega (arith, stands.few, ap length is, length-append earlier (next ∷ []), length-append earlier (current ∷ []));
        joined = joined_push state.wal 0 0 earlier next (joined_front state.wal 0 0 earlier (current ∷ []) joined)
            (record { side = keeps.side ∙ last.0.side; name = keeps.name ∙ last.0.name; begun = keeps.begun }) (omega (arith, keeps.from, last.1));
        fit = all_push (λ (u : Writer). Fits tells records u new) earlier next
            (fit_beside tells records (place_of_writer current) old new earlier others (apart_from_last state.wal earlier current joined)
            (all_front (λ (u : Writer). Fits tells records u old) earlier (current ∷ [])
            (subst (AllByRecursion (λ (u : Writer). Fits tells records u old)) is stands.fit))) fits;
        alone = λ id f flies. subst (λ (l : List Place). Contains l f.place) (sym (places_same keeps)) (alone id f flies);
        fresh = λ told index low high.
            let length_is : length earlier + 1 ≤ index = omega (arith, low, length-append earlier (next ∷ [])) in
            subst IsUnsent (sym ((others (place_at state.wal index)
            (λ e. omega (arith, length_is, ap index_in e, index_is state.wal (0 + length earlier) current last.0))).file told))
            (stands.fresh told index (omega (arith, length_is, ap length is, length-append earlier (current ∷ []))) high);
      }

  pub kept_in_order : KeepsPlace → current.phase ≢ Broken → Stands tells after new → (acked_so_far rested_to failures : ℕ)
      → state.dead ≡ None → IsInOrder tells state old acked_so_far rested_to failures
      → IsInOrder tells after new acked_so_far rested_to failures
  kept_in_order keeps whole stands acked_so_far rested_to failures lives order =
      let short : rested_to ≤ length earlier = omega (arith, order.first_busy, ap length is, length-append earlier (current ∷ [])) in
      record {
        stands = stands;
        acked = order.acked ∙ sym (acked_same keeps);
        failed = omega (
          arith,
          order.failed,
          ap (count_by is_broken) is,
          count_push is_broken earlier current,
          count_push is_broken earlier next,
          none_broken current whole,
          none_broken next keeps.whole,
        );
        rested = subst NoneBusy (ap (take rested_to) is ∙ take-append-le rested_to earlier (current ∷ []) short
            ∙ sym (take-append-le rested_to earlier (next ∷ []) short)) order.rested;
        first_busy = omega (arith, short, length-append earlier (next ∷ []));
        wal = order.wal;
        sound = sound_with state after.segments state.left_by_stall lives (some_records state order.sound
            (λ none. omega (arith, ap length is, ap length none, length-append earlier (current ∷ []))))
            (accounted_last earlier current next state.left_by_stall
            (subst (λ (ws : List Writer). AreAccounted ws state.left_by_stall) is order.sound.accounted)) order.sound;
      }

  -- ---- what begins

  sent_grows : (operation : Operation) (n sent : ℕ) → sent ≤ n → sent ≤ sent_with operation n sent
  sent_grows Create n sent le = omega arith
  sent_grows Write n sent le = le
  sent_grows Sync n sent le = omega arith

  pub keeps_place : (o : Option Operation) (n : ℕ) (was : Bool) → current.phase ≢ New → current.phase ≢ Broken → current.sent ≤ n
      → BeginsJust o n was current next old new → KeepsPlace
  keeps_place None n was begun whole room begins =
      let e : next ≡ current = begins.1 in
      record {
        side = ap (λ (u : Writer). u.side) e;
        name = ap (λ (u : Writer). u.name) e;
        from = ap (λ (u : Writer). u.from) e;
        synced = ap (λ (u : Writer). u.synced) e;
        sent = omega (arith, ap (λ (u : Writer). u.sent) e);
        begun = λ is_new. begun (sym (ap (λ (u : Writer). u.phase) e) ∙ is_new);
        whole = λ is_broken. whole (sym (ap (λ (u : Writer). u.phase) e) ∙ is_broken);
      }
  keeps_place (Some o) n was begun whole room begins =
      let e = begins.1.moved in
      record {
        side = ap (λ (u : Writer). u.side) e;
        name = ap (λ (u : Writer). u.name) e;
        from = ap (λ (u : Writer). u.from) e;
        synced = ap (λ (u : Writer). u.synced) e;
        sent = omega (arith, sent_grows o n current.sent room, ap (λ (u : Writer). u.sent) e);
        begun = λ is_new. let clash : InFlight o begins.1.id ≡ New = sym (ap (λ (u : Writer). u.phase) e) ∙ is_new in cc;
        whole = λ is_broken. let clash : InFlight o begins.1.id ≡ Broken = sym (ap (λ (u : Writer). u.phase) e) ∙ is_broken in cc;
      }

  has_place : Contains (map place_of_writer state.segments) (place_of_writer current)
  has_place = subst (λ (l : List Place). Contains l (place_of_writer current))
      (sym (ap (map place_of_writer) is ∙ map-append place_of_writer earlier (current ∷ [])))
      (Contains-push (map place_of_writer earlier) (place_of_writer current))

  -- Each file but those of the segments is as it was.
  opened_then : KeepsPlace → ((place : Place) → place ≢ place_of_writer current → SameFile tells place old new) → (opening : Files)
      → IsTrue tells → OthersStay opening state (files old) → OthersStay opening after (files new)
  opened_then keeps others opening told stay p out =
      let outside : Contains (map place_of_writer state.segments) p
      → ⊥ = λ there. out (subst (λ (l : List Place). Contains l p) (sym (places_same keeps)) there) in
      (others p (λ e. outside (subst (Contains (map place_of_writer state.segments)) (sym e) has_place))).file told ∙ stay p outside

  pub alone_now : (o : Option Operation) (n : ℕ) (was : Bool) → BeginsJust o n was current next old new
      → ((id : OpId) (f : Flight) → old.in_flight id ≡ Some f → Contains (map place_of_writer state.segments) f.place)
      → (id : OpId) (f : Flight) → new.in_flight id ≡ Some f → Contains (map place_of_writer state.segments) f.place
  alone_now None n was begins alone = subst (λ (v : DiskView). (id : OpId) (f : Flight) → v.in_flight id ≡ Some f
      → Contains (map place_of_writer state.segments) f.place) (sym begins.2) alone
  alone_now (Some o) n was begins alone = alone_with (record { place = place_of_writer current; act = act_of o }) current.side begins.1.id
      old new (map place_of_writer state.segments) begins.1.starts has_place alone

  module _ (goal : Goal) (was : Bool) (goal_is : goal ≡ record { len = len state; want = state.want; acked = acked state })
      (begins : BeginsJust (next_operation current.phase current.written goal) goal.len was current next old new) where
    abbrev coming : Option Operation
    coming = next_operation current.phase current.written goal

    pub may_start : Stands tells state old → IsBehind state → MayStartNext state old new after
    may_start held behind = go coming refl begins
      where
        go : (o : Option Operation) → coming ≡ o → BeginsJust o goal.len was current next old new → MayStartNext state old new after
        go None none begins =
            let same : state ≡ after = ap (λ (l : List Writer). record state { segments = l }) (is ∙ ap (λ (w : Writer). earlier ++ w ∷ []) (sym begins.1)) in
            subst (MayStartNext state old new) same (nothing (λ _ other starts.
            let current_is : current ≡ starts.current = last_same earlier starts.earlier current starts.current (sym is ∙ starts.segments_are) in
            let clash : None ≡ Some starts.operation =
            sym none ∙ ap (λ (w : Writer). next_operation w.phase w.written goal) current_is
            ∙ ap (next_operation starts.current.phase starts.current.written) goal_is ∙ starts.next in
            cc) (ap (λ (v : DiskView). v.calls) begins.2))
        go (Some o) some begins = started after behind (record {
          earlier = earlier;
          current = current;
          operation = o;
          id = begins.1.id;
          size = begins.1.size;
          place = begins.1.place;
          segments_are = is;
          next = ap (next_operation current.phase current.written) (sym goal_is) ∙ some;
          new_is = ap (λ (w : Writer). record state { segments = earlier ++ w ∷ [] })
              (begins.1.moved ∙ ap (λ (n : ℕ). record current {
                sent = sent_with o n current.sent;
                size = begins.1.size;
                place = begins.1.place;
                waiting = 0;
                phase = InFlight o begins.1.id;
              }) (ap (λ (g : Goal). g.len) goal_is));
        }) (none_flies tells held.0 state old begins.1.id begins.1.starts.fresh held.1) begins.1.noted

    module _ (whole : current.phase ≢ Broken) (others : (place : Place) → place ≢ place_of_writer current → SameFile tells place old new) where
      keeps : (records : List Batch) → StandsFor tells records state old → KeepsPlace
      keeps records stands =
          let fits : Fits tells records current old = all_last (λ (u : Writer). Fits tells records u old) earlier current
          (subst (AllByRecursion (λ (u : Writer). Fits tells records u old)) is stands.fit) in
          keeps_place coming goal.len was (last_is state.wal 0 0 earlier current (joined_was stands.joined)).0.begun whole
          (omega (
            arith,
            fits.ordered.sent,
            ap (λ (g : Goal). g.len) goal_is,
            stands.queue.start,
            ap length stands.queue.holds,
            length-drop state.queue.start records,
          )) begins

      pub started_stands : (records : List Batch) → StandsFor tells records state old → Fits tells records next new → StandsFor tells records after new
      started_stands records stands fits = kept_stands (keeps records stands) others (alone_now coming goal.len was begins stands.alone) records stands fits

      pub started_passes : Stands tells state old → GoesOn old new → (IsTrue tells → new.clock ≤ suc old.clock)
          → ((records : List Batch) → StandsFor tells records state old → Fits tells records next new) → Passes tells state after old new
      started_passes held goes one fits =
          let kept = keeps held.0 held.1 in
          passes_once tells state after old new refl refl (omega (arith, acked_same kept))
          (λ records stands. started_stands records stands (fits records stands)) goes (opened_then kept others)
          (λ told k low high. first_or_last old new goes (one told) k low high)

      pub started_in_order : ((records : List Batch) → StandsFor tells records state old → Fits tells records next new)
          → (acked_so_far rested_to failures : ℕ) → state.dead ≡ None → IsInOrder tells state old acked_so_far rested_to failures
          → IsInOrder tells after new acked_so_far rested_to failures
      started_in_order fits acked_so_far rested_to failures lives order =
          let records = order.stands.0 in
          let stands = order.stands.1 in
          kept_in_order (keeps records stands) whole (records, started_stands records stands (fits records stands)) acked_so_far rested_to failures lives order

-- The queue holds what the current segment has not sent.
pub holds_unsent : (tells : Bool) (records : List Batch) (state : State) (v : DiskView) (earlier : List Writer) (current : Writer)
    → state.segments ≡ earlier ++ current ∷ [] → StandsFor tells records state v
    → HoldsPart state.queue current.sent (len state)
holds_unsent tells records state v earlier current is stands = record
    { start = omega (arith, stands.queued, ap (sent_to_current 0) is, sent_to_last 0 earlier current); end = omega arith }

-- The current segment's writer fits.
pub current_fits : (tells : Bool) (records : List Batch) (state : State) (v : DiskView) (earlier : List Writer) (current : Writer)
    → state.segments ≡ earlier ++ current ∷ [] → StandsFor tells records state v
    → Fits tells records current v
current_fits tells records state v earlier current is stands =
    all_last (λ (u : Writer). Fits tells records u v) earlier current (subst (AllByRecursion (λ (u : Writer). Fits tells records u v)) is stands.fit)
