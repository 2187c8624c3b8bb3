-- Every event keeps the machine sound, and so does every list of events.
use Rattle.std.proofs.Common.{◌≡◌, ◌≢◌, ◌⊎◌, ℕ, suc, ◌+◌, ◌*◌, ◌<◌, Bool, List, [], ◌∷◌, ◌++◌, length, Option, Some, None, sym, refl, ap, ◌∙◌, subst, ap₂, ◌==◌, cond, true, false, eq-eqb, ne_eqb, inl, inr, ⊎_elim, lt_of_not-le, arith, eqb-true, nat_lt, ltb-true}
use mathlib.Core.Logic.{dite}
use native.Mathlib.Decide.{ℕ_discrete, dec_le}
use Rattle.publish_core.specs.declared.seat.Kind.TheVariants.{Producer, Note, Worker, Spent}
use Rattle.publish_core.specs.declared.seat.Claim.TheVariants.{Free}
use Rattle.publish_core.specs.declared.seat.Stage.TheVariants.{Marked}
use Rattle.publish_core.specs.declared.seat.Ends.{Ends}
use Rattle.publish_core.specs.declared.seat.Reading.{Reading}
use Rattle.publish_core.specs.declared.seat.SeatState.{SeatState}
use Rattle.publish_core.specs.Schedule.{opening, takes, Leads, from, AllWell}
use Rattle.publish_core.proofs.Alone.{kept_load_slot, kept_load_ends, kept_load_visible, kept_load_acked, kept_claim_lost}
use Rattle.publish_core.proofs.Steps.{kept_place}
use Rattle.publish_core.proofs.Marking.{kept_admit, kept_mark, kept_raise_acked}
use Rattle.publish_core.proofs.Front.{kept_claim_won, kept_empty, kept_raise}
use Rattle.publish_core.proofs.Joining.{fresh_ok, kept_tell, kept_hand}
use Rattle.publish_core.proofs.Both.{CanJoin, kept_join}
use Rattle.publish_core.proofs.Turns.{kept_take, kept_busy, kept_give, kept_apply}
use Rattle.publish_core.specs.Machine.{Event, load_slot, place, admit, load_ends, mark, claim, empty_slot, raise_visible, load_visible, raise_acked, load_acked, split, join, take_shard, give_shard, Possible, after, is_same_ends, handed, after_claim, after_split, CoreState, end_of, nobody, after_claim_won, after_claim_lost, after_take, after_busy}
use Rattle.publish_core.specs.Sound.{SeatOk, Sound}
use Rattle.publish_core.proofs.Put.{put_here, put_else, at_put, at_below}
use Rattle.publish_core.proofs.Alone.{acts_made}

module _ {B : Type 0} (count : B → ℕ) (touches : B → ℕ → Bool) where
  same_ends_true : (l : Option Ends) (h t : ℕ) → is_same_ends count touches l h t ≡ true → l ≡ Some record { head = h; tail = t }
  same_ends_true None h t e = cc
  same_ends_true (Some x) h t e = go (x.head == h) (x.tail == t) refl refl e
    where
      go : (a b : Bool) → (x.head == h) ≡ a → (x.tail == t) ≡ b → cond a b false ≡ true → ◌≡◌ {A = Option Ends} (Some x) (Some record { head = h; tail = t })
      go true true p q e = λ k. Some record { head = eqb-true x.head h p k; tail = eqb-true x.tail t q k }
      go true false p q e = cc
      go false b p q e = cc

  kept_claim : (s : CoreState B) → Sound count touches s → (j : ℕ) → Possible count touches s (claim j) → Sound count touches (after_claim count touches s j)
  kept_claim s sound j p = go (is_same_ends count touches (s.seats j).loaded s.head s.tail) refl
    where
      go : (b : Bool) → is_same_ends count touches (s.seats j).loaded s.head s.tail ≡ b
          → Sound count touches (cond b (after_claim_won count touches s j) (after_claim_lost count touches s j))
      go false is = kept_claim_lost count touches s sound j p.0
      go true is = let e : Ends = p.1.1 in let w : Reading = p.1.2 in let l = same_ends_true (s.seats j).loaded s.head s.tail is in
          let q : e ≡ record { head = s.head; tail = s.tail } = let c : Some e ≡ Some record { head = s.head; tail = s.tail } = sym p.1.3 ∙ l in cc in
          let hd : e.head ≡ s.head = ap (λ (x : Ends). x.head) q in let tl : e.tail ≡ s.tail = ap (λ (x : Ends). x.tail) q in
          let lt : e.tail < e.head = p.1.4 in
          kept_claim_won count touches s sound j p.0 p.1.0 (omega arith)
          (⊎_elim (λ (a : e.tail < s.tail). absurd (omega arith))
          (λ (a : (s.stage e.tail ≡ Marked) × (w.word ≡ 2 * end_of count s e.tail + 1)). ap s.stage (sym tl) ∙ a.0)
          ((sound.each_seat j).front e w p.1.3 p.1.5 lt p.1.6 p.1.7))

  kept_split : (s : CoreState B) → Sound count touches s → (from : ℕ) (note : Bool) → Possible count touches s (split from note)
      → Sound count touches (after count touches s (split from note))
  kept_split s sound from note p = dite (ℕ_discrete from 0)
      (λ z. subst (λ (b : Bool). Sound count touches (after_split count touches s from note (cond b (handed s.head (s.seats 0).held note) None)))
      (sym (eq-eqb from 0 z)) (hand (s.seats 0).held note refl))
      (λ n. subst (λ (b : Bool). Sound count touches (after_split count touches s from note (cond b (handed s.head (s.seats 0).held note) None)))
      (sym (ne_eqb from 0 n)) (kept_tell count touches s sound from (cond note Note Worker)))
    where
      admitted : (i : ℕ) → (s.seats 0).held ≡ Some i → (b : Bool) → nat_lt i s.head ≡ b → (nt : Bool)
          → Sound count touches (after_split count touches s from nt (cond b (Some i) None))
      admitted i h true e nt = kept_hand count touches s sound i h (ltb-true i s.head e)
      admitted i h false e nt = kept_tell count touches s sound from (cond nt Note Worker)

      hand : (h : Option ℕ) (nt : Bool) → (s.seats 0).held ≡ h → Sound count touches (after_split count touches s from nt (handed s.head h nt))
      hand None nt e = kept_tell count touches s sound from (cond nt Note Worker)
      hand (Some i) true e = admitted i e (nat_lt i s.head) refl true
      hand (Some i) false e = kept_tell count touches s sound from Worker

  pub can_join : (s : CoreState B) → Sound count touches s → (into note : ℕ) → Possible count touches s (join into note) → CanJoin count touches s into note
  can_join s sound into note p = ⊎_elim
      (λ (a : (into ≢ 0) × ((s.seats into).kind ≡ Worker) × ((s.seats note).kind ≡ Note) × (((s.seats into).held ≡ None) ⊎ ((s.seats note).held ≡ None))).
      record {
        apart = λ e. let c : Note ≡ Worker = sym a.2 ∙ ap (λ (k : ℕ). (s.seats k).kind) e ∙ a.1 in cc;
        acts = inr a.1;
        away = λ e. let c : Note ≡ Producer = sym a.2 ∙ ap (λ (k : ℕ). (s.seats k).kind) e ∙ sound.producer in cc;
        made = dite (dec_le s.made note) (λ le. let c : Spent ≡ Note = ap (λ (d : SeatState). d.kind) (sym (sound.unmade note le)) ∙ a.2 in cc)
            (λ n. lt_of_not-le n);
        quiet = (sound.each_seat note).note a.2;
        one = a.3;
        back = λ e. absurd (a.0 e);
      })
      (λ (a : (into ≡ 0) × ((s.seats note).kind ≡ Worker) × ((s.seats note).held ≡ None) × ((s.seats note).turn ≡ None) × ((s.seats note).claim ≡ Free)).
      let far : note ≢ 0 = λ e. let c : Worker ≡ Producer = sym a.1 ∙ ap (λ (k : ℕ). (s.seats k).kind) e ∙ sound.producer in cc in record {
        apart = λ e. far (e ∙ a.0);
        acts = inl (ap (λ (k : ℕ). (s.seats k).kind) a.0 ∙ sound.producer);
        away = far;
        made = acts_made count touches s sound note (inr a.1);
        quiet = (a.3, a.4);
        one = inr a.2;
        back = λ _. a.2;
      }) p

  pub kept : (s : CoreState B) → Sound count touches s → (e : Event B) → Possible count touches s e → Sound count touches (after count touches s e)
  kept s sound (load_slot j at) p = kept_load_slot count touches s sound j at p.0 p.1
  kept s sound (place b) p = kept_place count touches s sound b p.0 p.2 p.3 p.4
  kept s sound admit p = kept_admit count touches s sound p.0
  kept s sound (load_ends j) p = kept_load_ends count touches s sound j p
  kept s sound (mark j) p = kept_mark count touches s sound j p.1.0 p.0 p.1.1 p.1.2 p.1.3
  kept s sound (claim j) p = kept_claim s sound j p
  kept s sound (empty_slot j) p = kept_empty count touches s sound j p.1.0 p.0 p.1.1
  kept s sound (raise_visible j) p = kept_raise count touches s sound j p.1.0 p.0 p.1.1
  kept s sound (load_visible j) p = kept_load_visible count touches s sound j p
  kept s sound (raise_acked n) p = kept_raise_acked count touches s sound n p
  kept s sound (load_acked j) p = kept_load_acked count touches s sound j p
  kept s sound (split f n) p = kept_split s sound f n p
  kept s sound (join i n) p = kept_join count touches s sound i n (can_join s sound i n p)
  kept s sound (take_shard j k) p = go (s.turn k == 0) refl
    where
      go : (b : Bool) → (s.turn k == 0) ≡ b → Sound count touches (cond b (after_take count touches s j k) (after_busy count touches s j))
      go true e = kept_take count touches s sound j k p.0 p.1 p.2 (eqb-true (s.turn k) 0 e)
      go false e = kept_busy count touches s sound j p.0
  kept s sound (give_shard j false) p = kept_give count touches s sound j p.1.0 p.0 p.1.1
  kept s sound (give_shard j true) p = kept_apply count touches s sound j p.1.0 (p.1.2 refl).0 p.0 p.1.1 (p.1.2 refl).2

  pub opens : (v0 : ℕ) → Sound count touches (opening v0)
  opens v0 = record {
    tail_head = omega arith;
    head_length = omega arith;
    length_head = omega arith;
    room = omega arith;
    published_tail = omega arith;
    acked_head = omega arith;
    counted = λ i b e. let l = at_below {A = B} [] i b e in absurd (omega arith);
    known = λ i k a. absurd a;
    each_batch = λ i l. absurd (omega arith);
    each_slot = λ k l. inl refl;
    each_turn = λ k j e. absurd (omega arith);
    each_seat = λ j. at_put (λ (k : ℕ) (x : SeatState). SeatOk count touches (opening v0) k x) (λ _. nobody) 0 (record nobody { kind = Producer }) j
        (fresh_ok count touches (opening v0) 0 Producer) (λ _. fresh_ok count touches (opening v0) j Spent);
    producer = ap (λ (x : SeatState). x.kind) (put_here (λ _. nobody) 0 (record nobody { kind = Producer }));
    unmade = λ j le. put_else (λ _. nobody) 0 (record nobody { kind = Producer }) j (λ e. omega arith);
  }

  -- nothing is taken and the tail stays, or the front is and the tail goes one on
  abbrev Advances : CoreState B → List ℕ → ℕ → Type 0
  Advances s xs tail = ((xs ≡ []) × (tail ≡ s.tail)) ⊎ ((xs ≡ s.tail ∷ []) × (tail ≡ s.tail + 1))

  -- how an event moves the tail
  moves : (s : CoreState B) (e : Event B) → Advances s (takes count touches s e) (after count touches s e).tail
  moves s (load_slot j at) = inl (refl, refl)
  moves s (place b) = inl (refl, refl)
  moves s admit = inl (refl, refl)
  moves s (load_ends j) = inl (refl, refl)
  moves s (mark j) = inl (refl, refl)
  moves s (claim j) = go (is_same_ends count touches (s.seats j).loaded s.head s.tail)
    where
      go : (b : Bool) → Advances s (cond b (s.tail ∷ []) []) (cond b (after_claim_won count touches s j) (after_claim_lost count touches s j)).tail
      go true = inr (refl, refl)
      go false = inl (refl, refl)
  moves s (empty_slot j) = inl (refl, refl)
  moves s (raise_visible j) = inl (refl, refl)
  moves s (load_visible j) = inl (refl, refl)
  moves s (raise_acked n) = inl (refl, refl)
  moves s (load_acked j) = inl (refl, refl)
  moves s (split f n) = go (cond (f == 0) (handed s.head (s.seats 0).held n) None)
    where
      go : (h : Option ℕ) → Advances s [] (after_split count touches s f n h).tail
      go None = inl (refl, refl)
      go (Some i) = inl (refl, refl)
  moves s (join i n) = inl (refl, refl)
  moves s (take_shard j k) = go (s.turn k == 0)
    where
      go : (b : Bool) → Advances s [] (cond b (after_take count touches s j k) (after_busy count touches s j)).tail
      go true = inl (refl, refl)
      go false = inl (refl, refl)
  moves s (give_shard j true) = inl (refl, refl)
  moves s (give_shard j false) = inl (refl, refl)

  pub well : (s : CoreState B) → Sound count touches s → (es : List (Event B)) (t : CoreState B) (xs : List ℕ) → Leads count touches s es t xs
      → Sound count touches t × from count touches s.tail xs × (t.tail ≡ s.tail + length xs)
  well s sound [] t xs h = (
    subst (Sound count touches) (sym h.0) sound,
    subst (from count touches s.tail) (sym h.1) tt,
    ap (λ (x : CoreState B). x.tail) h.0 ∙ subst (λ (l : List ℕ). s.tail ≡ s.tail + length l) (sym h.1) (omega arith),
  )
  well s sound (e ∷ es) t xs h = ⊎_elim
      (λ (a : Possible count touches s e × ((ys : List ℕ) × (xs ≡ takes count touches s e ++ ys) × Leads count touches (after count touches s e) es t ys)).
      let ys : List ℕ = a.1.0 in let w = well (after count touches s e) (kept s sound e a.0) es t ys a.1.2 in
      ⊎_elim
      (λ (m : (takes count touches s e ≡ []) × ((after count touches s e).tail ≡ s.tail)). let is : xs ≡ ys = a.1.1 ∙ ap (λ (l : List ℕ). l ++ ys) m.0 in (
        w.0,
        subst (λ (y : ℕ × List ℕ). from count touches y.0 y.1) (λ k. (m.1 k, sym is k)) w.1,
        w.2 ∙ ap₂ (λ (x : ℕ) (l : List ℕ). x + length l) m.1 (sym is),
      ))
      (λ (m : (takes count touches s e ≡ s.tail ∷ []) × ((after count touches s e).tail ≡ s.tail + 1)).
      let is : xs ≡ s.tail ∷ ys = a.1.1 ∙ ap (λ (l : List ℕ). l ++ ys) m.0 in (
        w.0,
        subst (from count touches s.tail) (sym is) (refl, subst (λ (y : ℕ). from count touches y ys) m.1 w.1),
        w.2
            ∙ (let g : (after count touches s e).tail + length ys ≡ s.tail + suc (length ys) = let q = m.1 in omega arith in g)
            ∙ ap (λ (l : List ℕ). s.tail + length l) (sym is),
      ))
      (moves s e))
      (λ (a : (Possible count touches s e → ⊥) × Leads count touches s es t xs). well s sound es t xs a.1) h

  pub law : (v0 : ℕ) (es : List (Event B)) (t : CoreState B) (xs : List ℕ) → Leads count touches (opening v0) es t xs → AllWell count touches t xs
  law v0 es t xs h = let w = well (opening v0) (opens v0) es t xs h in record { sound = w.0; in_order = w.1; each_once = let q = w.2 in omega arith }
