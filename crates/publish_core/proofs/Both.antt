-- Joining two seats keeps the machine sound.
use Rattle.std.proofs.Common.{◌≡◌, ◌≢◌, ◌⊎◌, ℕ, ◌+◌, ◌*◌, ◌%◌, ◌<◌, ◌≤◌, Bool, length, Option, Some, None, sym, refl, ap, ◌∙◌, subst, cond, eq-eqb, ne_eqb, inl, inr, ⊎_elim, arith}
use mathlib.Core.Logic.{dite}
use native.Mathlib.Decide.{ℕ_discrete}
use Rattle.publish_core.specs.declared.seat.Kind.TheVariants.{Producer, Spent}
use Rattle.publish_core.specs.declared.seat.Claim.{Claim}
use Rattle.publish_core.specs.declared.seat.Claim.TheVariants.{Free, Taken, Emptied}
use Rattle.publish_core.specs.declared.seat.Stage.{Stage}
use Rattle.publish_core.specs.declared.seat.Stage.TheVariants.{Held, Marked, Claimed, Cleared, Out}
use Rattle.publish_core.specs.declared.seat.SeatState.{SeatState}
use Rattle.publish_core.specs.declared.state.TheConstants.{SLOTS}
use Rattle.publish_core.specs.Machine.{updated, Among, CoreState, end_of, nobody, Acts, both_held, joined, renamed, after_join}
use Rattle.publish_core.specs.Sound.{Full, Past, bit, InStage, Owned, SeatOk, Sound}
use Rattle.publish_core.proofs.Put.{among_append, among_right, among_split, distinct_append, at_put}
use Rattle.publish_core.proofs.Frame.{Evolves, still, seat_stays}
use Rattle.publish_core.proofs.Steps.{apart}
use Rattle.publish_core.proofs.Joining.{fresh_ok}
use Rattle.publish_core.proofs.Alone.{acts_made, acts_no_note}

-- what holds of every seat, where two of them changed
pub two : (f : ℕ → SeatState) (me you : ℕ) (d e : SeatState) → you ≢ me → (P Q : ℕ → SeatState → Type 0) → (P me (f me) → Q me d) → (P you (f you) → Q you e)
    → ((j : ℕ) → j ≢ me → j ≢ you → P j (f j) → Q j (f j)) → (j : ℕ) → P j (f j) → Q j (updated (updated f me d) you e j)
two f me you d e apart P Q a b c j h =
    at_put (λ (k : ℕ) (y : SeatState). k ≡ j → Q k y) (updated f me d) you e j (λ q. b (subst (λ (k : ℕ). P k (f k)) (sym q) h))
    (λ ny _. at_put (λ (k : ℕ) (y : SeatState). k ≡ j → Q k y) f me d j (λ q. a (subst (λ (k : ℕ). P k (f k)) (sym q) h)) (λ nm _. c j nm ny h) refl) refl

renamed_else : (note into j : ℕ) → j ≢ note → renamed note into (Held j) ≡ Held j
renamed_else note into j n = ap (λ (b : Bool). Held (cond b into j)) (ne_eqb j note n)

renamed_here : (note into : ℕ) → renamed note into (Held note) ≡ Held into
renamed_here note into = ap (λ (b : Bool). Held (cond b into note)) (eq-eqb note note refl)

renamed_past : (note into : ℕ) (st : Stage) → Past st → renamed note into st ≡ st
renamed_past note into (Held j) p = absurd p
renamed_past note into Marked p = refl
renamed_past note into (Claimed j) p = refl
renamed_past note into (Cleared j) p = refl
renamed_past note into Out p = refl

renamed_bit : (note into : ℕ) (st : Stage) → bit (renamed note into st) ≡ bit st
renamed_bit note into (Held j) = refl
renamed_bit note into Marked = refl
renamed_bit note into (Claimed j) = refl
renamed_bit note into (Cleared j) = refl
renamed_bit note into Out = refl

full_renamed : (note into : ℕ) (st : Stage) → Full st → Full (renamed note into st)
full_renamed note into (Held j) f = tt
full_renamed note into Marked f = tt
full_renamed note into (Claimed j) f = tt
full_renamed note into (Cleared j) f = absurd f
full_renamed note into Out f = absurd f

renamed_full : (note into : ℕ) (st : Stage) → Full (renamed note into st) → Full st
renamed_full note into (Held j) f = tt
renamed_full note into Marked f = tt
renamed_full note into (Claimed j) f = tt
renamed_full note into (Cleared j) f = absurd f
renamed_full note into Out f = absurd f

past_renamed : (note into : ℕ) (st : Stage) → Past st → Past (renamed note into st)
past_renamed note into st p = subst Past (sym (renamed_past note into st p)) p

held_left : (x y : Option ℕ) (i : ℕ) → x ≡ Some i → both_held x y ≡ Some i
held_left x y i e = subst (λ (z : Option ℕ). both_held z y ≡ Some i) (sym e) refl

held_right : (x y : Option ℕ) (i : ℕ) → x ≡ None → y ≡ Some i → both_held x y ≡ Some i
held_right x y i n e = subst (λ (z : Option ℕ). both_held z y ≡ Some i) (sym n) e

held_either : (x y : Option ℕ) (i : ℕ) → both_held x y ≡ Some i → (x ≡ Some i) ⊎ (y ≡ Some i)
held_either None y i e = inr e
held_either (Some k) y i e = inl e

module _ {B : Type 0} (count : B → ℕ) (touches : B → ℕ → Bool) where
  -- what a join asks
  pub record CanJoin (s : CoreState B) (into note : ℕ) : Type 0 where
    pub apart : note ≢ into
    pub acts : Acts (s.seats into)
    pub away : note ≢ 0
    pub made : note < s.made
    pub quiet : ((s.seats note).turn ≡ None) × ((s.seats note).claim ≡ Free)
    pub one : ((s.seats into).held ≡ None) ⊎ ((s.seats note).held ≡ None)
    pub back : into ≡ 0 → (s.seats note).held ≡ None

  pub kept_join : (s : CoreState B) → Sound count touches s → (into note : ℕ) → CanJoin s into note → Sound count touches (after_join count touches s into note)
  kept_join s sound me you can =
      let d : SeatState = s.seats me in let e : SeatState = s.seats you in let s' : CoreState B = after_join count touches s me you in
      let ok = sound.each_seat me in let yo = sound.each_seat you in
      let n : you ≢ me = can.apart in let j' : SeatState = joined d e in
      let all : (P Q : ℕ → SeatState → Type 0) → (P me d → Q me j') → (P you e → Q you nobody)
      → ((j : ℕ) → j ≢ me → j ≢ you → P j (s.seats j) → Q j (s.seats j)) → (j : ℕ) → P j (s.seats j) → Q j (s'.seats j) = two s.seats me you j' nobody n in
      let owner_else : (i : ℕ) → s.owner i ≢ you → s'.owner i ≡ s.owner i = λ i ne. ap (λ (b : Bool). cond b me (s.owner i)) (ne_eqb (s.owner i) you ne) in
      let owner_here : (i : ℕ) → s.owner i ≡ you → s'.owner i ≡ me = λ i q. ap (λ (b : Bool). cond b me (s.owner i)) (eq-eqb (s.owner i) you q) in
      let ev : Evolves count touches s me you = record (still count touches s me you) {
        to = s';
        held = λ i j _ ny _ q. ap (renamed you me) q ∙ renamed_else you me j ny;
        claimed = λ i j _ _ _ q. ap (renamed you me) q;
        cleared = λ i j _ _ _ q. ap (renamed you me) q;
        marked = λ i _ q. inl (ap (renamed you me) q);
        past = λ i _ f. past_renamed you me (s.stage i) f;
        owner = λ i j _ ny _ q. owner_else i (λ z. ny (sym q ∙ z)) ∙ q;
      } in
      let own_me : (i : ℕ) → Among i d.own → Among i (s'.seats me).own =
      λ i a. all (λ k y. (k ≡ me) × Among i d.own) (λ k y. (k ≡ me) → Among i y.own) (λ q _. among_append i d.own e.own a) (λ q z. absurd (n z))
      (λ j nm _ q z. absurd (nm z)) me (refl, a) refl in
      let own_you : (i : ℕ) → Among i e.own → Among i (s'.seats me).own =
      λ i a. all (λ k y. (k ≡ me) × Among i e.own) (λ k y. (k ≡ me) → Among i y.own) (λ q _. among_right i d.own e.own a) (λ q z. absurd (n z))
      (λ j nm _ q z. absurd (nm z)) me (refl, a) refl in
      let own_move : (i o : ℕ) → s.owner i ≡ o → Among i (s.seats o).own → Among i (s'.seats (s'.owner i)).own = λ i o q a. dite (ℕ_discrete o you)
      (λ z. subst (λ (y : ℕ). Among i (s'.seats y).own) (sym (owner_here i (q ∙ z))) (own_you i (subst (λ (y : ℕ). Among i (s.seats y).own) z a)))
      (λ ny. subst (λ (y : ℕ). Among i (s'.seats y).own) (sym (owner_else i (λ z. ny (sym q ∙ z)) ∙ q))
      (all (λ k y. (k ≡ o) × Among i y.own) (λ k y. Among i y.own) (λ w. among_append i d.own e.own w.1) (λ w. absurd (ny (sym w.0))) (λ _ _ _ w. w.1) o
      (refl, a))) in
      let claim_move : (j : ℕ) (c : Claim) → (c ≢ Free) → (s.seats j).claim ≡ c → (s'.seats j).claim ≡ c =
      λ j c f. all (λ k y. y.claim ≡ c) (λ k y. y.claim ≡ c) (λ q. q) (λ q. absurd (f (sym q ∙ can.quiet.1))) (λ _ _ _ q. q) j in
      let held_move : (i j : ℕ) → i < length s.batches → s.stage i ≡ Held j → InStage count touches s i (Held j)
      → InStage count touches s' i (renamed you me (Held j)) = λ i j l st h. dite (ℕ_discrete j you)
      (λ z. subst (InStage count touches s' i) (sym (ap (λ (y : ℕ). renamed you me (Held y)) z ∙ renamed_here you me)) (
        h.0,
        all (λ k y. k ≡ me) (λ k y. (k ≡ me) → y.held ≡ Some i)
            (λ _ _. held_right d.held e.held i
            (⊎_elim (λ a. a) (λ b. let c : None ≡ Some i = sym b ∙ ap (λ (k : ℕ). (s.seats k).held) (sym z) ∙ h.1 in cc) can.one)
            (ap (λ (k : ℕ). (s.seats k).held) (sym z) ∙ h.1)) (λ _ q. absurd (n q)) (λ j nm _ _ q. absurd (nm q)) me refl refl,
      ))
      (λ ny. subst (InStage count touches s' i) (sym (renamed_else you me j ny)) (
        h.0,
        all (λ k y. (k ≡ j) × (y.held ≡ Some i)) (λ k y. y.held ≡ Some i) (λ q. held_left d.held e.held i q.1) (λ q. absurd (ny (sym q.0)))
            (λ _ _ _ q. q.1) j (refl, h.1),
      )) in
      let stands : (i : ℕ) → i < length s.batches → (st : Stage) → s.stage i ≡ st → InStage count touches s i st
      → InStage count touches s' i (renamed you me st) = λ i l st q h.
      elim st as (λ (x : Stage). s.stage i ≡ x → InStage count touches s i x → InStage count touches s' i (renamed you me x)) [
        | Held j ↦ λ q h. held_move i j l q h
        | Marked ↦ λ q h. h
        | Claimed j ↦ λ q h. (h.0, claim_move j (Taken i) (λ z. cc) h.1, h.2)
        | Cleared j ↦ λ q h. (h.0, claim_move j (Emptied i) (λ z. cc) h.1, h.2)
        | Out ↦ λ q h. h
      ] q h in
      let owned : (i : ℕ) → i < length s.batches → (st : Stage) → s.stage i ≡ st → Owned count touches s i st → Owned count touches s' i (renamed you me st) =
      λ i l st q o.
      elim st as (λ (x : Stage). s.stage i ≡ x → Owned count touches s i x → Owned count touches s' i (renamed you me x)) [
        | Held j ↦ λ q o. dite (ℕ_discrete j you)
            (λ z. subst (Owned count touches s' i) (sym (ap (λ (y : ℕ). renamed you me (Held y)) z ∙ renamed_here you me)) (owner_here i (o ∙ z)))
            (λ ny. subst (Owned count touches s' i) (sym (renamed_else you me j ny)) (owner_else i (λ z. ny (sym o ∙ z)) ∙ o))
        | Marked ↦ λ q o. own_move i (s.owner i) refl o
        | Claimed j ↦ λ q o. own_move i (s.owner i) refl o
        | Cleared j ↦ λ q o. own_move i (s.owner i) refl o
        | Out ↦ λ q o. own_move i (s.owner i) refl o
      ] q o in
      let seen : d.seen ≤ length s.batches = ok.seen in let seen' : e.seen ≤ length s.batches = yo.seen in
      let pub1 = ok.published in let pub2 = yo.published in let p1 : d.published ≤ s.published = pub1.0 in let p2 : e.published ≤ s.published = pub2.0 in
      let p3 : d.published ≤ d.seen = pub1.1 in let p4 : e.published ≤ e.seen = pub2.1 in
      let a1 : d.acked ≤ s.acked = ok.acked in let a2 : e.acked ≤ s.acked = yo.acked in
      let mine : SeatOk count touches s' me j' = record {
        held = λ i q. ⊎_elim
            (λ z. let h = ok.held i z in let g : i < d.seen = h.2 in
            (h.0, ap (renamed you me) h.1 ∙ renamed_else you me me (λ w. n (sym w)), omega arith, owner_else i (λ w. n (sym w ∙ h.3)) ∙ h.3))
            (λ z. let h = yo.held i z in let g : i < e.seen = h.2 in (h.0, ap (renamed you me) h.1 ∙ renamed_here you me, omega arith, owner_here i h.3))
            (held_either d.held e.held i q);
        admitted = λ i nz q. ⊎_elim (λ z. ok.admitted i nz z) (λ z. yo.admitted i can.away z) (held_either d.held e.held i q);
        taken = λ i q. let t = ok.taken i q in (t.0, ap (renamed you me) t.1);
        emptied = λ i q. let t = ok.emptied i q in (t.0, ap (renamed you me) t.1);
        seen = omega arith;
        published = (omega arith, omega arith);
        acked = omega arith;
        loaded = λ x a. let c : None ≡ Some x = a in cc;
        front = λ x v a b lt at odd. let c : None ≡ Some x = a in cc;
        vacant = λ v z q zero'. let c : None ≡ Some v = q in cc;
        knows = λ p a. ⊎_elim (λ z. ok.knows p z) (λ z. yo.knows p z) (among_split p d.knows e.knows a);
        turn = ok.turn;
        owns = λ i a. ⊎_elim
            (λ z. let o = ok.owns i z in let g : i < d.seen = o.0 in
            (omega arith, owner_else i (λ w. n (sym w ∙ o.1)) ∙ o.1, past_renamed you me (s.stage i) o.2))
            (λ z. let o = yo.owns i z in let g : i < e.seen = o.0 in (omega arith, owner_here i o.1, past_renamed you me (s.stage i) o.2))
            (among_split i d.own e.own a);
        distinct = distinct_append d.own e.own ok.distinct yo.distinct (λ i a b. n (sym (yo.owns i b).1 ∙ (ok.owns i a).1));
        note = λ q. absurd (acts_no_note d can.acts q);
      } in
      record {
        tail_head = sound.tail_head;
        head_length = sound.head_length;
        length_head = sound.length_head;
        room = sound.room;
        published_tail = sound.published_tail;
        acked_head = sound.acked_head;
        counted = sound.counted;
        known = sound.known;
        each_batch = λ i l. let b = sound.each_batch i l in record {
          stands = stands i l (s.stage i) refl b.stands;
          word = λ f. let w = b.word (renamed_full you me (s.stage i) f) in
              (w.0 ∙ ap (λ (x : ℕ). 2 * end_of count s i + x) (sym (renamed_bit you me (s.stage i))), w.1);
          owned = owned i l (s.stage i) refl b.owned;
        };
        each_slot = λ k small. ⊎_elim (λ z. inl z)
            (λ (y : (i : ℕ) × (i < length s.batches) × (i % SLOTS ≡ k) × Full (s.stage i)). inr (y.0, y.1, y.2, full_renamed you me (s.stage y.0) y.3))
            (sound.each_slot k small);
        each_turn = λ k j q. let t = sound.each_turn k j q in
            (t.0, all (λ z y. y.turn ≡ Some k) (λ z y. y.turn ≡ Some k) (λ w. w) (λ w. let c : None ≡ Some k = sym can.quiet.0 ∙ w in cc) (λ _ _ _ w. w) j t.1);
        each_seat = λ j. all (λ k y. Unit {0}) (λ k y. SeatOk count touches s' k y) (λ _. mine) (λ _. fresh_ok count touches s' you Spent)
            (λ k a b _. seat_stays ev sound k (s.seats k) a b (sound.each_seat k)) j tt;
        producer = all (λ k y. (k ≡ 0) × (y.kind ≡ Producer)) (λ k y. y.kind ≡ Producer) (λ q. q.1) (λ q. absurd (can.away q.0)) (λ _ _ _ q. q.1) 0
            (refl, sound.producer);
        unmade = λ j le. let m = acts_made count touches s sound me can.acts in let my : you < s.made = can.made in
            all (λ k y. (s.made ≤ k) × (y ≡ nobody)) (λ k y. y ≡ nobody) (λ q. let g : s.made ≤ me = q.0 in absurd (omega arith)) (λ q. refl) (λ _ _ _ q. q.1) j
            (le, sound.unmade j le);
      }
