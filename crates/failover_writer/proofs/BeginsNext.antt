-- A segment that is begun stands after the others, and they stay as they are.
use Rattle.std.proofs.Common.{◌≡◌, ◌≢◌, inl, inr, ℕ, suc, ◌+◌, ◌≤◌, ◌<◌, Bool, List, [], ◌∷◌, ◌++◌, length, None, map, Some, IsTrue, ap, sym, subst, ◌∙◌, refl, arith}
use Rattle.std.specs.Prelude.{Contains, count_by}
use Rattle.std.proofs.lemmas.List.{length-append, map-append, take-append-le}
use Rattle.std.proofs.lemmas.List.Elements.{Contains-append_left, Contains-push}
use Rattle.disk_face.specs.declared.OpId.{OpId}
use Rattle.disk_face.specs.declared.Side.{Side}
use Rattle.disk_face.specs.declared.SegName.{SegName}
use Rattle.disk_face.specs.View.{Place, segment, creating, Act, Flight, Files, DiskView, files, IsFree, was_started, Makes}
use Rattle.disk_face.specs.Calls.{GoesOn, Starts}
use Rattle.disk_face.proofs.Laws.{same_id}
use Rattle.batch_repr.specs.declared.batch.Batch.{Batch}
use Rattle.log_writer.specs.Promises.{unstarted}
use Rattle.log_writer.specs.declared.goal.Goal.{Goal}
use Rattle.log_writer.specs.Steps.{BeginsJust, next_operation}
use Rattle.log_writer.specs.declared.phase.Operation.TheVariants.{Create}
use Rattle.log_writer.specs.declared.phase.Phase.{Phase}
use Rattle.log_writer.specs.declared.phase.Phase.TheVariants.{New, InFlight}
use Rattle.log_writer.specs.Writer.{Writer}
use Rattle.log_writer.specs.declared.phase.Operation.{Operation}
use Rattle.log_writer.specs.Fits.{Fits, HasFlight, IsUnsent, SameFile, act_of, flight_on, place_of_writer}
use Rattle.failover_writer.specs.State.{State, acked, is_broken}
use Rattle.failover_writer.specs.Ranges.{side_at, IsSegmentAt, StandsFor}
use Rattle.failover_writer.specs.Inside.{IsInOrder}
use Rattle.failover_writer.specs.Stepping.{IsBehind, begun, left_behind, NoneBusy, NoneFlies}
use Rattle.failover_writer.proofs.Lists.{all_then}
use Rattle.failover_writer.specs.Keeping.{OthersStay, Passes}
use Rattle.failover_writer.proofs.Accounted.{accounted_push}
use Rattle.failover_writer.proofs.IsSoundJournal.{sound_with}
use Rattle.failover_writer.proofs.Passes.{passes_once}
use Rattle.failover_writer.proofs.PassesOnce.{first_or_last}
use Rattle.failover_writer.proofs.Segments.{place_at, index_in, place_is, apart_from, all_push, joined_push, not_theirs, fit_beside, most_synced_push, sent_to_last, count_push, synced_within}

-- No operation is in flight on the file of a segment that is not begun.
pub next_free : (tells : Bool) (records : List Batch) (state : State) (v : DiskView) → StandsFor tells records state v
    → IsFree v (place_at state.wal (length state.segments))
next_free tells records state v stands id f flies at =
    not_theirs state.segments (place_at state.wal (length state.segments))
    (apart_from state.wal 0 0 state.segments (place_at state.wal (length state.segments)) (omega arith) stands.joined)
    (subst (Contains (map place_of_writer state.segments)) at (stands.alone id f flies))

pub acked_within : (tells : Bool) (records : List Batch) (state : State) (v : DiskView) → StandsFor tells records state v → acked state ≤ length records
acked_within tells records state v stands = synced_within tells records v 0 state.segments (omega arith) stands.fit

-- A new writer fits, on the file of the segment that comes next.
pub next_fits : (tells : Bool) (state : State) (v : DiskView) (side : Side) (name : SegName) (from : ℕ) (w : Writer) → side ≡ side_at (length state.segments)
    → name ≡ record { wal = state.wal; index = length state.segments } → from ≡ acked state → length state.segments < 10
    → ((records : List Batch) → from ≤ length records → IsFree v (segment side name)
    → (IsTrue tells → IsUnsent (files v (segment side name))) → Fits tells records w v)
    → (records : List Batch) → StandsFor tells records state v → Fits tells records w v
next_fits tells state v side name from w side_is name_is from_is few fits records stands =
    let place_is : segment side name ≡ place_at state.wal (length state.segments) = ap (λ (s : Side). segment s name) side_is
    ∙ ap (segment (side_at (length state.segments))) name_is in
    fits records (omega (arith, from_is, acked_within tells records state v stands)) (subst (IsFree v) (sym place_is) (next_free tells records state v stands))
    (λ told. subst (λ (p : Place). IsUnsent (files v p)) (sym place_is) (stands.fresh told (length state.segments) (omega arith) (omega (arith, few))))

-- What a new writer begins is its creation.
pub begins_first : (state : State) (side : Side) (name : SegName) (log from len : ℕ) (goal : Goal) (started : Bool) (w new : Writer)
    (before after : DiskView) → side ≡ side_at (length state.segments)
    → name ≡ record { wal = state.wal; index = length state.segments } → from ≡ acked state → w ≡ unstarted side name log from
    → BeginsJust (next_operation w.phase w.written goal) len started w new before after
    → (id : OpId) × begun state id new × Starts (record { place = place_of_writer new; act = creating }) side id before after
    × (place_of_writer new ≡ place_of_writer w) × Makes (was_started id (flight_on creating new) ∷ []) before after
begins_first state side name log from len goal started w new before after side_is name_is from_is made begins =
    let begins_new = (subst (λ (u : Writer). BeginsJust (next_operation u.phase u.written goal) len started u new before after) made begins).1 in
    let moved = begins_new.moved in
    let place : place_of_writer new ≡ segment side name = ap place_of_writer moved in (
      begins_new.id,
      (
        ap (λ (u : Writer). u.side) moved ∙ side_is,
        ap (λ (u : Writer). u.name) moved ∙ name_is,
        ap (λ (u : Writer). u.from) moved ∙ from_is,
        ap (λ (u : Writer). u.sent) moved ∙ from_is,
        ap (λ (u : Writer). u.written) moved ∙ from_is,
        ap (λ (u : Writer). u.synced) moved ∙ from_is,
        ap (λ (u : Writer). u.waiting) moved,
        ap (λ (u : Writer). u.phase) moved,
      ),
      subst (λ (p : Place). Starts (record { place = p; act = creating }) side begins_new.id before after) (sym place) begins_new.starts,
      place ∙ sym (ap place_of_writer made),
      subst (λ (p : Place). Makes (was_started begins_new.id (record { place = p; act = creating }) ∷ []) before after) (sym place) begins_new.noted,
    )

-- An id that no operation in flight has is none of a segment's.
flies_in : (tells : Bool) (records : List Batch) (v : DiskView) (id : OpId) → v.in_flight id ≡ None → (w : Writer) → Fits tells records w v
    → (operation : Operation) → w.phase ≡ InFlight operation id → ⊥
flies_in tells records v id none w fits operation phase =
    let flies : HasFlight (InFlight operation id) (place_of_writer w) v =
    subst (λ (p : Phase). HasFlight p (place_of_writer w) v) phase fits.flight in
    let clash : None ≡ Some (flight_on (act_of operation) w) = sym none ∙ flies.here in
    cc

pub none_flies : (tells : Bool) (records : List Batch) (state : State) (v : DiskView) (id : OpId) → v.in_flight id ≡ None
    → StandsFor tells records state v → NoneFlies id state.segments
none_flies tells records state v id none stands =
    all_then (λ (w : Writer). Fits tells records w v) (λ (w : Writer). (operation : Operation) → w.phase ≡ InFlight operation id → ⊥)
    (flies_in tells records v id none) state.segments stands.fit

-- Where one operation more is in flight, on this file, each is on theirs or on it.
pub alone_with : (flight : Flight) (side : Side) (id : OpId) (old new : DiskView) (theirs : List Place) → Starts flight side id old new
    → Contains theirs flight.place
    → ((q : OpId) (f : Flight) → old.in_flight q ≡ Some f → Contains theirs f.place) → (q : OpId) (f : Flight) → new.in_flight q ≡ Some f
    → Contains theirs f.place
alone_with flight side id old new theirs starts here alone q f flies = elim (same_id q id) [
  | inl e ↦ let same : Some flight ≡ Some f = sym starts.here ∙ ap new.in_flight (sym e)
      ∙ flies in let is : flight ≡ f = cc in subst (λ (g : Flight). Contains theirs g.place) is here
  | inr ne ↦ alone q f (sym (starts.others q ne) ∙ flies)
]

module _ (tells : Bool) (state : State) (old new : DiskView) (id : OpId) (w : Writer) (side : Side) (act : Act)
    (few : length state.segments < 10) (is : begun state id w)
    (starts : Starts (record { place = place_of_writer w; act = act }) side id old new)
    (others : (place : Place) → place ≢ place_of_writer w → SameFile tells place old new) where
  abbrev after : State
  after = record state { segments = state.segments ++ w ∷ []; left_by_stall = state.left_by_stall + left_behind state.segments }

  its_segment : IsSegmentAt state.wal (length state.segments) w
  its_segment = record { side = is.0; name = is.1; begun = λ e. let clash : InFlight Create id ≡ New = sym is.7 ∙ e in cc }

  its_place : place_of_writer w ≡ place_at state.wal (length state.segments)
  its_place = place_is state.wal (length state.segments) w its_segment

  acked_same : acked after ≡ acked state
  acked_same = omega (arith, most_synced_push 0 state.segments w, is.5)

  pub begun_stands : (records : List Batch) → StandsFor tells records state old → Fits tells records w new → StandsFor tells records after new
  begun_stands records stands fits = record {
    named = stands.named;
    numbered = stands.numbered;
    spelled = stands.spelled;
    next = stands.next;
    queue = stands.queue;
    queued = omega (arith, stands.queued, acked_same, sent_to_last 0 state.segments w, is.3);
    want = stands.want;
    few = omega (arith, few, length-append state.segments (w ∷ []));
    joined = joined_push state.wal 0 0 state.segments w stands.joined
        (subst (λ (n : ℕ). IsSegmentAt state.wal n w) (omega arith) its_segment) (omega (arith, is.2));
    fit = all_push (λ (u : Writer). Fits tells records u new) state.segments w
        (fit_beside tells records (place_of_writer w) old new state.segments others
        (apart_from state.wal 0 0 state.segments (place_of_writer w) (omega (arith, ap index_in its_place)) stands.joined) stands.fit)
        fits;
    alone = alone_with (record { place = place_of_writer w; act = act }) side id old new (map place_of_writer after.segments) starts
        (subst (λ (l : List Place). Contains l (place_of_writer w)) (sym (map-append place_of_writer state.segments (w ∷ [])))
        (Contains-push (map place_of_writer state.segments) (place_of_writer w)))
        (λ q f flies. subst (λ (l : List Place). Contains l f.place) (sym (map-append place_of_writer state.segments (w ∷ [])))
        (Contains-append_left (map place_of_writer state.segments) (place_of_writer w ∷ []) f.place (stands.alone q f flies)));
    fresh = λ told index low high.
        subst IsUnsent (sym ((others (place_at state.wal index)
        (λ e. omega (arith, low, length-append state.segments (w ∷ []), ap index_in e, ap index_in its_place))).file told))
        (stands.fresh told index (omega (arith, low, length-append state.segments (w ∷ []))) high);
  }

  not_broken : count_by is_broken (w ∷ []) ≡ 0
  not_broken = ap (λ (p : Phase). count_by is_broken (record w { phase = p } ∷ [])) is.7

  pub begun_in_order : (acked_so_far rested_to failures : ℕ) → state.dead ≡ None → IsBehind state
      → ((records : List Batch) → StandsFor tells records state old → Fits tells records w new)
      → IsInOrder tells state old acked_so_far rested_to failures → IsInOrder tells after new acked_so_far rested_to failures
  begun_in_order acked_so_far rested_to failures lives behind fits order = record {
    stands = (order.stands.0, begun_stands order.stands.0 order.stands.1 (fits order.stands.0 order.stands.1));
    acked = order.acked ∙ sym acked_same;
    failed = omega (arith, order.failed, count_push is_broken state.segments w, not_broken);
    rested = subst NoneBusy (sym (take-append-le rested_to state.segments (w ∷ []) (omega (arith, order.first_busy)))) order.rested;
    first_busy = omega (arith, order.first_busy, length-append state.segments (w ∷ []));
    wal = order.wal;
    sound = sound_with state after.segments after.left_by_stall lives (λ empty. omega (arith, behind, empty))
        (accounted_push state.segments w state.left_by_stall order.sound.accounted) order.sound;
  }

  -- ---- the moments

  has_place : Contains (map place_of_writer after.segments) (place_of_writer w)
  has_place = subst (λ (l : List Place). Contains l (place_of_writer w)) (sym (map-append place_of_writer state.segments (w ∷ [])))
      (Contains-push (map place_of_writer state.segments) (place_of_writer w))

  has_places : (p : Place) → Contains (map place_of_writer state.segments) p → Contains (map place_of_writer after.segments) p
  has_places p there = subst (λ (l : List Place). Contains l p) (sym (map-append place_of_writer state.segments (w ∷ [])))
      (Contains-append_left (map place_of_writer state.segments) (place_of_writer w ∷ []) p there)

  -- Each file but those of the segments is as it was.
  opened_then : (opening : Files) → IsTrue tells → OthersStay opening state (files old) → OthersStay opening after (files new)
  opened_then opening told stay p out =
      let apart : p ≢ place_of_writer w = λ e. out (subst (Contains (map place_of_writer after.segments)) (sym e) has_place) in
      (others p apart).file told ∙ stay p (λ there. out (has_places p there))

  pub begun_passes : GoesOn old new → (IsTrue tells → new.clock ≤ suc old.clock)
      → ((records : List Batch) → StandsFor tells records state old → Fits tells records w new) → Passes tells state after old new
  begun_passes goes one fits =
      passes_once tells state after old new refl refl (omega (arith, acked_same))
      (λ records stands. begun_stands records stands (fits records stands)) goes opened_then
      (λ told k low high. first_or_last old new goes (one told) k low high)
