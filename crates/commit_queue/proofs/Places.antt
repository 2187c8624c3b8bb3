-- Looking at a slot, placing and admitting keep the rule of the table.
use Rattle.std.proofs.Common.{◌≡◌, ℕ, suc, ◌+◌, ◌-◌, ◌*◌, ◌%◌, ◌^◌, ◌<◌, List, [], ◌∷◌, ◌++◌, length, get_or, set, Some, None, sym, refl, ap, ◌∙◌, subst, ap₂, arith, length-append}
use mathlib.Core.Logic.{dite}
use mathlib.Core.Option.{none, some-injective}
use native.Mathlib.Decide.{ℕ_discrete}
use native.Mathlib.Nat.{mod-eq_of_lt}
use lib.ListN.{get_elem?}
use Rattle.atomic_table.specs.Table.{step, keeps, Allows}
use Rattle.wal_base.specs.Prefixes.{IsPrefixOf}
use Rattle.wal_base.proofs.Laws.{prefix_same, prefix_then}
use Rattle.batch_repr.specs.declared.batch.Batch.{Batch}
use Rattle.batch_repr.specs.declared.limits.TheConstants.{BATCHES_MAX}
use Rattle.memtable_shards.specs.Versions.{touches}
use Rattle.publish_core.specs.declared.seat.Kind.TheVariants.{Producer, Spent}
use Rattle.publish_core.specs.declared.seat.Reading.{Reading}
use Rattle.publish_core.specs.declared.seat.SeatState.{SeatState}
use Rattle.publish_core.specs.declared.state.TheConstants.{SLOTS, END_LIMIT}
use Rattle.publish_core.specs.Machine.{updated, ends, Acts, after_load_slot, placed_seat, after_place, after_admit}
use Rattle.publish_core.proofs.Laws.{append_at, at_below, at_end, ends_append, ends_snoc}
use Rattle.publish_core.proofs.Laws.{all_admitted, kept_place}
use Rattle.publish_core.proofs.Laws.{kept_admit}
use Rattle.publish_core.proofs.Laws.{kept_load_slot}
use Rattle.commit_queue.specs.declared.pipe_table.TableOpening.{TableOpening}
use Rattle.commit_queue.specs.declared.view.View.{View}
use Rattle.commit_queue.specs.declared.layout.TheConstants.{ENDS, RING_FROM, HALF}
use Rattle.commit_queue.specs.Rule.{RingState, numbers, Linked}
use Rattle.commit_queue.specs.Views.{read_seat, read_view, placed_view, admitted_view}
use Rattle.commit_queue.specs.Tells.{Seated, TellsSlot, TellsPlaced, TellsAdmitted}
use Rattle.commit_queue.specs.Calls.{CanPlace, next_number}
use Rattle.commit_queue.proofs.Becomes.{still, linked, stays}
use Rattle.commit_queue.proofs.Words.{shows_seats, shows_ends, shows_ring}

module _ (o : TableOpening) where
  pub sees_slot : (n id : ℕ) (me : Seated) (at : ℕ) → at < SLOTS → Acts me.0.seat
      → Allows (Linked o) n id me (at + RING_FROM) (λ x. x) (TellsSlot (step n (at + RING_FROM) 0 0 none) me)
  sees_slot n id me at small acts s r wide has _ =
      let c : RingState = r.core in let v : View = me.0 in let ok = r.each_view id v has in let x : ℕ = get_or s.words (at + RING_FROM) 0 in
      let w : View = read_view v at x in
      let back : at + RING_FROM - RING_FROM ≡ at = omega arith in
      stays o s (at + RING_FROM) id me (TellsSlot (step n (at + RING_FROM) 0 0 none) me) w
      (linked o s r id (record (still o s r id v has) {
        view = w;
        core = after_load_slot numbers touches c id at;
        sound = kept_load_slot numbers touches c r.sound id at (subst Acts (sym ok.seat) acts) small;
        seats = λ k. updated c.seats id (read_seat (ok.seat k) at (sym (r.shows.ring_word at small) k));
        shows = shows_seats c _ s.words r.shows;
      }))
      (refl, ap (λ (a : ℕ). read_view v a x) (sym back))

  pub places : (n : ℕ) (me : Seated) (at new : ℕ) (b : Batch) → at ≡ me.0.head % SLOTS → new ≡ 2 * (b.first + numbers b)
      → me.0.seat.held ≡ None → me.0.seat.reading ≡ Some record {
        at = at;
        word = 0;
      } → b.first ≡ next_number me.0 → 0 < numbers b → b.first + numbers b < END_LIMIT → length me.0.history < BATCHES_MAX
      → Allows (Linked o) n 0 me (at + RING_FROM) (λ _. new) (λ _. TellsPlaced b (step n (at + RING_FROM) new 0 none) me new)
  places n me at new b at_is new_is idle read first pos fits few s r wide has _ =
      let c : RingState = r.core in let v : View = me.0 in let ok = r.each_view 0 v has in let i : ℕ = length c.batches in
      let w : View = placed_view v b in
      let hist : v.history ≡ c.batches = ok.whole refl in let len : length v.history ≡ i = ap length hist in
      let seat : c.seats 0 ≡ v.seat = ok.seat in let idle' : (c.seats 0).held ≡ None = ap (λ (d : SeatState). d.held) seat ∙ idle in
      let base' : v.base ≡ c.base =
      (ok.base (λ e. let q : Producer ≡ Spent = sym r.sound.producer ∙ ap (λ (d : SeatState). d.kind) seat ∙ e in cc)).0 in
      let all : i ≡ c.head = all_admitted numbers touches c r.sound idle' in
      let at_head : at ≡ c.head % SLOTS = at_is ∙ ap (λ (z : ℕ). z % SLOTS) (ok.head refl) in
      let read' : (c.seats 0).reading ≡ Some record { at = c.head % SLOTS; word = 0 } = ap (λ (d : SeatState). d.reading) seat ∙ read
      ∙ ap (λ (z : ℕ). Some (let x : Reading = record { at = z; word = 0 } in x)) at_head in
      let first' : b.first ≡ ends numbers c.base c.batches i = first ∙ (λ k. ends numbers (base' k) (hist k) (len k)) in
      let c' : RingState = after_place numbers touches c b in let sound' = kept_place numbers touches c r.sound b all idle' read' pos in
      let n' : length (c.batches ++ b ∷ []) ≡ i + 1 = length-append c.batches (b ∷ []) in
      let snoc : ends numbers c.base (c.batches ++ b ∷ []) (suc i)
      ≡ ends numbers c.base c.batches i + numbers b = ends_snoc numbers c.base c.batches b in
      let pt = r.sound.published_tail in let th = r.sound.tail_head in let hl = r.sound.head_length in (
        w,
        keeps,
        tt,
        linked o s r 0 (record (still o s r 0 v has) {
          words = set s.words (at + RING_FROM) new;
          view = w;
          core = c';
          sound = sound';
          seats = ap₂ (λ (d : SeatState) (j : ℕ). updated c.seats 0 (placed_seat numbers touches d j)) seat (sym len);
          longer = (b ∷ [], refl);
          others = λ ne. absurd (ne refl);
          few = omega arith;
          small = λ k l. dite (ℕ_discrete k i)
              (λ is. subst (λ (z : ℕ). ends numbers c.base (c.batches ++ b ∷ []) (suc z) < END_LIMIT) (sym is)
              (let g : ends numbers c.base (c.batches ++ b ∷ []) (suc i) < END_LIMIT = omega arith in g))
              (λ ne. let l' : k < i = omega arith in subst (λ (z : ℕ). z < END_LIMIT)
              (sym (ends_append numbers c.base c.batches (b ∷ []) (suc k) (omega arith))) (r.small k l'));
          first = λ k x e. dite (ℕ_discrete k i)
              (λ is. let same : b ≡ x = some-injective b x (sym (at_end c.batches b) ∙ ap (get_elem? (c.batches ++ b ∷ [])) (sym is) ∙ e) in
              ap (λ (y : Batch). y.first) (sym same) ∙ first' ∙ sym (ends_append numbers c.base c.batches (b ∷ []) i (omega arith))
              ∙ ap (ends numbers c.base (c.batches ++ b ∷ [])) (sym is))
              (λ ne. let l = at_below (c.batches ++ b ∷ []) k x e in
              let l' : k < i = omega arith in r.first k x (sym (append_at c.batches (b ∷ []) k l') ∙ e)
              ∙ sym (ends_append numbers c.base c.batches (b ∷ []) k (omega arith)));
          shows = shows_ring c c' s.words at new (let m : c.head % SLOTS < SLOTS = omega arith in omega arith) r.shows refl refl
              (ends_append numbers c.base c.batches (b ∷ []) c.published (omega arith)) refl refl
              (ap₂ (updated c.ring) (sym at_head) (ap (λ (z : ℕ). 2 * (z + numbers b)) (sym first') ∙ sym new_is));
          known = subst (λ (l : List Batch). IsPrefixOf (l ++ b ∷ []) (c.batches ++ b ∷ [])) (sym hist) (prefix_same (c.batches ++ b ∷ []));
          absorbed = prefix_then v.absorbed c.batches (c.batches ++ b ∷ []) ok.absorbed (b ∷ [], refl);
          seen = λ _. omega (arith, length-append v.history (b ∷ []));
          whole = λ _. ap (λ (l : List Batch). l ++ b ∷ []) hist;
          pieces = λ j k e. (
            (λ a. let same : length v.history ≡ j = cc in let l = r.sound.known j k a in absurd (omega arith)),
            λ a. absurd a,
          );
          idle = λ e. let q : Some (length v.history) ≡ None = e in cc;
        }),
        (refl, refl),
      )

  pub admits : (n : ℕ) (me : Seated) → length me.0.history ≡ me.0.head + 1
      → Allows (Linked o) n 0 me ENDS (λ x. (x + HALF) % 2 ^ 64) (TellsAdmitted (step n ENDS HALF 0 none) me)
  admits n me more s r wide has _ =
      let c : RingState = r.core in let v : View = me.0 in let ok = r.each_view 0 v has in let w : View = admitted_view v in
      let more' : length c.batches ≡ c.head + 1 = ap length (sym (ok.whole refl)) ∙ more ∙ ap (λ (z : ℕ). z + 1) (ok.head refl) in
      let x : ℕ = get_or s.words ENDS 0 in let is : x ≡ c.head * HALF + c.tail = r.shows.ends_word in let few = r.few in
      let th = r.sound.tail_head in
      let c' : RingState = after_admit numbers touches c in (
        w,
        keeps,
        tt,
        linked o s r 0 (record (still o s r 0 v has) {
          words = set s.words ENDS ((x + HALF) % 2 ^ 64);
          view = w;
          core = c';
          sound = kept_admit numbers touches c r.sound more';
          others = λ ne. absurd (ne refl);
          shows = shows_ends c c' s.words ((x + HALF) % 2 ^ 64) r.shows
              (mod-eq_of_lt (let g : x + HALF < 2 ^ 64 = omega arith in g)
              ∙ (let g : x + HALF ≡ (c.head + 1) * HALF + c.tail = omega arith in g)) refl refl refl refl;
          head = λ z. ap (λ (y : ℕ). y + 1) (ok.head z);
        }),
        (refl, refl),
      )

  -- the same for the seat that is the producer's
  pub places_at : (n id : ℕ) (me : Seated) (at new : ℕ) (b c : Batch) → id ≡ 0 → c ≡ b → at ≡ me.0.head % SLOTS
      → new ≡ 2 * (c.first + numbers c) → 0 < numbers c → c.first + numbers c < END_LIMIT → CanPlace me.0 c
      → Allows (Linked o) n id me (at + RING_FROM) (λ _. new) (λ _. TellsPlaced b (step n (at + RING_FROM) new 0 none) me new)
  places_at n id me at new b c z e at_is new_is pos small can = subst
      (λ (x : ℕ × Batch). Allows (Linked o) n x.0 me (at + RING_FROM) (λ _. new) (λ _. TellsPlaced x.1 (step n (at + RING_FROM) new 0 none) me new))
      (λ k. (sym z k, e k))
      (places n me at new c at_is new_is can.idle
      (can.empty ∙ ap (λ (y : ℕ). Some (let r : Reading = record { at = y; word = 0 } in r)) (sym at_is)) can.follows pos small can.few)

  pub admits_at : (n id : ℕ) (me : Seated) → id ≡ 0 → length me.0.history ≡ me.0.head + 1
      → Allows (Linked o) n id me ENDS (λ x. (x + HALF) % 2 ^ 64) (TellsAdmitted (step n ENDS HALF 0 none) me)
  admits_at n id me z more = subst
      (λ (x : ℕ). Allows (Linked o) n x me ENDS (λ y. (y + HALF) % 2 ^ 64) (TellsAdmitted (step n ENDS HALF 0 none) me)) (sym z)
      (admits n me more)
