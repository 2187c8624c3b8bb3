-- A seat takes one batch on to its next stage, and all that is not told of stays as it was.
use Rattle.std.proofs.Common.{◌≡◌, ◌≢◌, ◌⊎◌, ℕ, ◌+◌, ◌*◌, ◌%◌, ◌<◌, ◌≤◌, Bool, length, Some, sym, refl, ap, ◌∙◌, subst, inl, inr, ⊎_elim, le_trans, arith}
use mathlib.Core.Logic.{dite}
use native.Mathlib.Decide.{ℕ_discrete}
use Rattle.publish_core.specs.declared.seat.Claim.TheVariants.{Taken, Emptied}
use Rattle.publish_core.specs.declared.seat.Stage.{Stage}
use Rattle.publish_core.specs.declared.seat.Stage.TheVariants.{Held, Marked, Claimed, Cleared}
use Rattle.publish_core.specs.declared.seat.Ends.{Ends}
use Rattle.publish_core.specs.declared.seat.Reading.{Reading}
use Rattle.publish_core.specs.declared.seat.SeatState.{SeatState}
use Rattle.publish_core.specs.declared.state.TheConstants.{SLOTS}
use Rattle.publish_core.specs.Machine.{updated, Among, Distinct, CoreState, end_of, Acts}
use Rattle.publish_core.specs.Sound.{Full, Past, bit, InStage, Owned, BatchOk, SeatOk, Sound}
use Rattle.publish_core.proofs.Put.{put_here, put_else, at_put}
use Rattle.publish_core.proofs.Frame.{Evolves, still, front_stays, batch_stays, owned_stays, Keeps, seats_all, own_all, turn_all, kind_all, unmade_all}
use Rattle.publish_core.proofs.Alone.{acts_made, acts_no_note}

-- The seat me, which is d then, takes the batch x from the stage was to the stage next
module _ {B : Type 0} (count : B → ℕ) (touches : B → ℕ → Bool) (s : CoreState B) (sound : Sound count touches s) (me x : ℕ) (was next : Stage)
    (d : SeatState) (ring : ℕ → ℕ) (tail published : ℕ) where
  abbrev gone : CoreState B
  gone = record s {
    tail = tail;
    published = published;
    stage = updated s.stage x next;
    ring = ring;
    seats = updated s.seats me d;
  }

  pub record Move : Type 0 where
    pub acts : Acts (s.seats me)
    pub near : x < length s.batches
    pub is : s.stage x ≡ was
    -- no other seat has the batch
    pub alone : (j : ℕ) → j ≢ me → (was ≢ Held j) × (was ≢ Claimed j) × (was ≢ Cleared j)
    pub past : Past next
    pub changes : was ≢ next
    pub front : was ≡ Marked → x < tail
    pub ends : (s.tail ≤ tail) × (tail ≤ s.head) × (s.published ≤ published) × (published ≤ tail)
    pub behind : (i : ℕ) → i ≢ x → s.tail ≤ i → tail ≤ i
    pub vacant : (k : ℕ) → s.ring k ≡ 0 → ring k ≡ 0
    pub words : (i : ℕ) → i < length s.batches → i ≢ x → Full (s.stage i) → ring (i % SLOTS) ≡ s.ring (i % SLOTS)
    pub slot : Full was → (ring (x % SLOTS) ≡ 0) ⊎ Full next
    pub word : Full next → (ring (x % SLOTS) ≡ 2 * end_of count s x + bit next) × (length s.batches ≤ x + SLOTS)
    pub stands : InStage count touches gone x next
    pub owned : ((i j : ℕ) → Among i (s.seats j).own → Among i (gone.seats j).own)
        → Owned count touches s x was → Owned count touches gone x next
    pub same : (d.kind ≡ (s.seats me).kind) × (d.acked ≡ (s.seats me).acked)
        × (d.turn ≡ (s.seats me).turn) × (d.knows ≡ (s.seats me).knows)
    pub seen : ((s.seats me).seen ≤ d.seen) × (d.seen ≤ length s.batches)
    pub out : (d.published ≤ published) × (d.published ≤ d.seen)
    pub loaded : (e : Ends) → d.loaded ≡ Some e → (s.seats me).loaded ≡ Some e
    pub reading : (w : Reading) → d.reading ≡ Some w → (s.seats me).reading ≡ Some w
    -- what it held and claimed it does still, but the batch
    pub held : (i : ℕ) → i ≢ x → (s.seats me).held ≡ Some i → d.held ≡ Some i
    pub taken : (i : ℕ) → i ≢ x → (s.seats me).claim ≡ Taken i → d.claim ≡ Taken i
    pub emptied : (i : ℕ) → i ≢ x → (s.seats me).claim ≡ Emptied i → d.claim ≡ Emptied i
    -- what it holds and claims it did before, or it is the batch
    pub holds : (i : ℕ) → d.held ≡ Some i → (was ≢ Held me) × ((s.seats me).held ≡ Some i)
    pub takes : (i : ℕ) → d.claim ≡ Taken i
        → ((i ≡ x) × (next ≡ Claimed me)) ⊎ ((was ≢ Claimed me) × ((s.seats me).claim ≡ Taken i))
    pub empties : (i : ℕ) → d.claim ≡ Emptied i
        → ((i ≡ x) × (next ≡ Cleared me)) ⊎ ((was ≢ Cleared me) × ((s.seats me).claim ≡ Emptied i))
    pub own : (i : ℕ) → Among i (s.seats me).own → Among i d.own
    pub owns : (i : ℕ) → Among i d.own → ((i ≡ x) × (x < d.seen) × (s.owner x ≡ me)) ⊎ Among i (s.seats me).own
    pub distinct : Distinct d.own

  pub moved : Move → Sound count touches gone
  moved m =
      let old : SeatState = s.seats me in let ok = sound.each_seat me in let s' : CoreState B = gone in
      let stage_old : (i : ℕ) → i ≢ x → s'.stage i ≡ s.stage i = λ i ne. put_else s.stage x next i ne in
      let here : s'.stage x ≡ next = put_here s.stage x next in
      let at_x : (i : ℕ) (st : Stage) → i ≡ x → s.stage i ≡ st → was ≡ st = λ i st q e. sym m.is ∙ ap s.stage (sym q) ∙ e in
      let stays : (i : ℕ) (st : Stage) → was ≢ st → s.stage i ≡ st → s'.stage i ≡ st =
      λ i st ne e. stage_old i (λ q. ne (at_x i st q e)) ∙ e in
      let not_x : (i : ℕ) (st : Stage) → s.stage i ≡ st → s'.stage i ≡ st → i ≢ x =
      λ i st a b q. m.changes (at_x i st q a ∙ sym b ∙ ap s'.stage q ∙ here) in
      let ev : Evolves count touches s me me = record (still count touches s me me) {
        to = s';
        tail = m.ends.0;
        published = m.ends.2;
        held = λ i j n _ _. stays i (Held j) (m.alone j n).0;
        claimed = λ i j n _ _. stays i (Claimed j) (m.alone j n).1;
        cleared = λ i j n _ _. stays i (Cleared j) (m.alone j n).2;
        marked = λ i _ e. dite (ℕ_discrete i x)
            (λ q. inr (subst (λ (y : ℕ). y < tail) (sym q) (m.front (at_x i Marked q e)))) (λ ne. inl (stage_old i ne ∙ e));
        past = λ i _. at_put (λ (q : ℕ) (st : Stage). Past (s.stage q) → Past st) s.stage x next i (λ _. m.past) (λ _ f. f);
        vacant = λ _. m.vacant;
      } in
      let keeps : Keeps ev sound = record {
        held = λ i j l a b. at_put (λ (k : ℕ) (y : SeatState). (s.seats k).held ≡ Some i → y.held ≡ Some i) s.seats me d j
            (m.held i (not_x i (Held j) a b)) (λ _ q. q);
        taken = λ i j l a b. at_put (λ (k : ℕ) (y : SeatState). (s.seats k).claim ≡ Taken i → y.claim ≡ Taken i) s.seats me d j
            (m.taken i (not_x i (Claimed j) a b)) (λ _ q. q);
        emptied = λ i j l a b. at_put (λ (k : ℕ) (y : SeatState). (s.seats k).claim ≡ Emptied i → y.claim ≡ Emptied i) s.seats me d j
            (m.emptied i (not_x i (Cleared j) a b)) (λ _ q. q);
      } in
      let own : (i j : ℕ) → Among i (s.seats j).own → Among i (s'.seats j).own = own_all d ev sound refl m.own in
      let mine : SeatOk count touches s' me d = record {
        held = λ i e. let w = m.holds i e in let t = ok.held i w.1 in (t.0, stays i (Held me) w.0 t.1, le_trans t.2 m.seen.0, t.3);
        admitted = λ i n e. ok.admitted i n (m.holds i e).1;
        taken = λ i e. ⊎_elim
            (λ (a : (i ≡ x) × (next ≡ Claimed me)).
            subst (λ (y : ℕ). (y < length s.batches) × (s'.stage y ≡ Claimed me)) (sym a.0) (m.near, here ∙ a.1))
            (λ (a : (was ≢ Claimed me) × (old.claim ≡ Taken i)). let t = ok.taken i a.1 in (t.0, stays i (Claimed me) a.0 t.1))
            (m.takes i e);
        emptied = λ i e. ⊎_elim
            (λ (a : (i ≡ x) × (next ≡ Cleared me)).
            subst (λ (y : ℕ). (y < length s.batches) × (s'.stage y ≡ Cleared me)) (sym a.0) (m.near, here ∙ a.1))
            (λ (a : (was ≢ Cleared me) × (old.claim ≡ Emptied i)). let t = ok.emptied i a.1 in (t.0, stays i (Cleared me) a.0 t.1))
            (m.empties i e);
        seen = m.seen.1;
        published = m.out;
        acked = subst (λ (y : ℕ). y ≤ s.acked) (sym m.same.1) ok.acked;
        loaded = λ e a. let l = ok.loaded e (m.loaded e a) in (l.0, le_trans l.1 m.ends.0);
        front = λ e v a b lt at odd. let hl = sound.head_length in let g : e.head ≤ s.head = (ok.loaded e (m.loaded e a)).0 in
            front_stays ev sound e v (omega arith) (ok.front e v (m.loaded e a) (m.reading v b) lt at odd);
        vacant = λ v z e w. m.vacant v.at (ok.vacant v z (m.reading v e) w);
        knows = λ p a. ok.knows p (subst (Among p) m.same.3 a);
        turn = λ k e. ok.turn k (sym m.same.2 ∙ e);
        owns = λ i a. ⊎_elim
            (λ (b : (i ≡ x) × (x < d.seen) × (s.owner x ≡ me)).
            subst (λ (y : ℕ). (y < d.seen) × (s.owner y ≡ me) × Past (s'.stage y)) (sym b.0) (b.1, b.2, subst Past (sym here) m.past))
            (λ (b : Among i old.own). let o = ok.owns i b in (le_trans o.0 m.seen.0, o.1, ev.past i (le_trans o.0 ok.seen) o.2))
            (m.owns i a);
        distinct = m.distinct;
        note = λ e. absurd (acts_no_note old m.acts (sym m.same.0 ∙ e));
      } in
      record {
        tail_head = m.ends.1;
        head_length = sound.head_length;
        length_head = sound.length_head;
        room = let r = sound.room in let up : s.tail ≤ tail = m.ends.0 in omega arith;
        published_tail = m.ends.3;
        acked_head = sound.acked_head;
        counted = sound.counted;
        known = sound.known;
        each_batch = λ i l. let b = sound.each_batch i l in dite (ℕ_discrete i x)
            (λ q. subst (BatchOk count touches s') (sym q) record {
              stands = subst (InStage count touches s' x) (sym here) m.stands;
              word = λ f. let w = m.word (subst Full here f) in
                  (w.0 ∙ ap (λ (st : Stage). 2 * end_of count s x + bit st) (sym here), w.1);
              owned = subst (Owned count touches s' x) (sym here)
                  (m.owned own (subst (Owned count touches s x) m.is (sound.each_batch x m.near).owned));
            })
            (λ ne. batch_stays ev sound keeps i l (m.behind i ne) (stage_old i ne) (m.words i l ne) (λ f. (b.word f).1)
            (owned_stays ev sound i refl (own i (s.owner i)) (s.stage i) b.owned) b);
        each_slot = λ k small. ⊎_elim (λ z. inl (m.vacant k z))
            (λ (y : (i : ℕ) × (i < length s.batches) × (i % SLOTS ≡ k) × Full (s.stage i)). dite (ℕ_discrete y.0 x)
            (λ q. let spot : k ≡ x % SLOTS = sym y.2 ∙ ap (λ (n : ℕ). n % SLOTS) q in
            ⊎_elim (λ z. inl (ap ring spot ∙ z)) (λ f. inr (x, m.near, sym spot, subst Full (sym here) f))
            (m.slot (subst Full (ap s.stage q ∙ m.is) y.3)))
            (λ ne. inr (y.0, y.1, y.2, subst Full (sym (stage_old y.0 ne)) y.3)))
            (sound.each_slot k small);
        each_turn = λ k j e. let t = sound.each_turn k j e in (t.0, turn_all d ev sound refl m.same.2 k j t.1);
        each_seat = seats_all d ev sound refl mine;
        producer = kind_all d ev sound refl m.same.0;
        unmade = unmade_all d ev sound refl (acts_made count touches s sound me m.acts);
      }
