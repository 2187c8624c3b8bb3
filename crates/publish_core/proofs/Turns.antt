-- The turns on the shards keep the machine sound.
use Rattle.std.proofs.Common.{◌≡◌, ◌≢◌, ℕ, suc, ◌<◌, Bool, List, ◌∷◌, length, Option, Some, None, sym, refl, ap, ◌∙◌, subst, inl, inr, ⊎_elim, arith}
use Rattle.publish_core.specs.declared.seat.Pair.{Pair}
use Rattle.publish_core.specs.declared.seat.SeatState.{SeatState}
use Rattle.publish_core.specs.declared.state.TheConstants.{SHARDS}
use Rattle.publish_core.specs.Machine.{updated, Among, CoreState, Acts, one_more, held_or, turn_or, after_take, after_busy, after_give, after_apply}
use Rattle.publish_core.specs.Sound.{SeatOk, Sound}
use Rattle.publish_core.proofs.Put.{put_here, put_else, at_put, put_cases}
use Rattle.publish_core.proofs.Frame.{Evolves, still, batch_stays, owned_stays, seats_all, keeps_all, own_all, kind_all, unmade_all}
use Rattle.publish_core.proofs.Alone.{view, looked, acts_made, acts_no_note}

module _ {B : Type 0} (count : B → ℕ) (touches : B → ℕ → Bool) where
  pub kept_busy : (s : CoreState B) → Sound count touches s → (me : ℕ) → Acts (s.seats me) → Sound count touches (after_busy count touches s me)
  kept_busy s sound me acts = let c = (s.seats me).counts in
      looked count touches s sound me acts (record (view count touches s sound me) { counts = record c { busy = one_more c.busy } })

  -- A seat takes or gives the turn on the shard k. What it knows and what is done may grow
  module _ (s : CoreState B) (sound : Sound count touches s) (me k t : ℕ) (done : ℕ → List ℕ) (turn : Option ℕ) (knows : List Pair)
      (more : (i q : ℕ) → Among i (s.done q) → Among i (done q)) where
    abbrev turned : CoreState B
    turned =
        record s {
          turn = updated s.turn k t;
          done = done;
          seats = updated s.seats me (record (s.seats me) { turn = turn; knows = knows });
        }

    pub record Turn : Type 0 where
      pub acts : Acts (s.seats me)
      pub known : (p : Pair) → Among p knows → Among p.batch (done p.shard)
      pub inside : (i q : ℕ) → Among i (done q) → i < length s.batches
      -- no other seat has the turn before, nor after
      pub before : (j : ℕ) → j ≢ me → s.turn k ≢ suc j
      pub after : (j : ℕ) → t ≡ suc j → (j ≡ me) × (k < SHARDS) × (turn ≡ Some k)
      pub mine : (q : ℕ) → turn ≡ Some q → (q ≡ k) × (q < SHARDS) × (t ≡ suc me)
      pub only : (q : ℕ) → (s.seats me).turn ≡ Some q → q ≡ k

    kept_turn : Turn → Sound count touches turned
    kept_turn c = let s' : CoreState B = turned in let ok = sound.each_seat me in
        let d : SeatState = record (s.seats me) { turn = turn; knows = knows } in
        let ev : Evolves count touches s me me = record (still count touches s me me) {
          to = s';
          done = λ i q a. more i q a;
          turn = λ q j n _ e. put_else s.turn k t q (λ z. c.before j n (sym (ap s.turn z) ∙ e)) ∙ e;
        } in
        let mine : SeatOk count touches s' me d = record {
          held = ok.held;
          admitted = ok.admitted;
          taken = ok.taken;
          emptied = ok.emptied;
          seen = ok.seen;
          published = ok.published;
          acked = ok.acked;
          loaded = ok.loaded;
          front = ok.front;
          vacant = ok.vacant;
          knows = c.known;
          turn = λ q e. let m = c.mine q e in (m.1, subst (λ (y : ℕ). updated s.turn k t y ≡ suc me) (sym m.0) (put_here s.turn k t ∙ m.2));
          owns = ok.owns;
          distinct = ok.distinct;
          note = λ e. absurd (acts_no_note (s.seats me) c.acts e);
        } in
        record {
          tail_head = sound.tail_head;
          head_length = sound.head_length;
          length_head = sound.length_head;
          room = sound.room;
          published_tail = sound.published_tail;
          acked_head = sound.acked_head;
          counted = sound.counted;
          known = c.inside;
          each_batch = λ i l. let b = sound.each_batch i l in
              batch_stays ev sound (keeps_all d ev sound refl refl refl) i l (λ x. x) refl (λ _. refl) (λ f. (b.word f).1)
              (owned_stays ev sound i refl (own_all d ev sound refl (λ q a. a) i (s.owner i)) (s.stage i) b.owned) b;
          each_slot = sound.each_slot;
          each_turn = λ q j e. ⊎_elim
              (λ (z : (q ≡ k) × (updated s.turn k t q ≡ t)). let a = c.after j (sym z.1 ∙ e) in (
                subst (λ (y : ℕ). y < SHARDS) (sym z.0) a.1,
                subst (λ (y : ℕ × ℕ). (updated s.seats me d y.0).turn ≡ Some y.1) (λ w. (sym a.0 w, sym z.0 w))
                    (ap (λ (y : SeatState). y.turn) (put_here s.seats me d) ∙ a.2),
              ))
              (λ (z : (q ≢ k) × (updated s.turn k t q ≡ s.turn q)). let o = sound.each_turn q j (sym z.1 ∙ e) in (
                o.0,
                at_put (λ (x : ℕ) (y : SeatState). (s.seats x).turn ≡ Some q → y.turn ≡ Some q) s.seats me d j (λ w. absurd (z.0 (c.only q w)))
                    (λ _ w. w) o.1,
              ))
              (put_cases s.turn k t q);
          each_seat = seats_all d ev sound refl mine;
          producer = kind_all d ev sound refl refl;
          unmade = unmade_all d ev sound refl (acts_made count touches s sound me c.acts);
        }

  suc_inj : (a b : ℕ) → suc a ≡ suc b → a ≡ b
  suc_inj a b e = omega arith

  pub kept_take : (s : CoreState B) → Sound count touches s → (me k : ℕ) → Acts (s.seats me) → k < SHARDS → (s.seats me).turn ≡ None → s.turn k ≡ 0
      → Sound count touches (after_take count touches s me k)
  kept_take s sound me k acts small none free = kept_turn s sound me k (suc me) s.done (Some k) (s.seats me).knows (λ i q a. a) record {
    acts = acts;
    known = (sound.each_seat me).knows;
    inside = sound.known;
    before = λ j _ e. let z : 0 ≡ suc j = sym free ∙ e in omega arith;
    after = λ j e. (sym (suc_inj me j e), small, refl);
    mine = λ q e. let z : k ≡ q = cc in (sym z, subst (λ (y : ℕ). y < SHARDS) z small, refl);
    only = λ q e. let c : None ≡ Some q = sym none ∙ e in cc;
  }

  abbrev pub given_state : CoreState B → ℕ → ℕ → CoreState B
  given_state s me k = record s { turn = updated s.turn k 0; seats = updated s.seats me (record (s.seats me) { turn = None }) }

  pub giving : (s : CoreState B) → Sound count touches s → (me k : ℕ) → Acts (s.seats me) → (s.seats me).turn ≡ Some k
      → Sound count touches (given_state s me k)
  giving s sound me k acts has = kept_turn s sound me k 0 s.done None (s.seats me).knows (λ i q a. a) record {
    acts = acts;
    known = (sound.each_seat me).knows;
    inside = sound.known;
    before = λ j n e. n (suc_inj j me (sym e ∙ ((sound.each_seat me).turn k has).1));
    after = λ j e. absurd (omega arith);
    mine = λ q e. let c : None ≡ Some q = e in cc;
    only = λ q e. let c : Some k ≡ Some q = sym has ∙ e in cc;
  }

  pub kept_give : (s : CoreState B) → Sound count touches s → (me k : ℕ) → Acts (s.seats me) → (s.seats me).turn ≡ Some k
      → Sound count touches (after_give count touches s me)
  kept_give s sound me k acts has = subst (λ (y : ℕ). Sound count touches (given_state s me y)) (sym (ap (turn_or 0) has)) (giving s sound me k acts has)

  abbrev pub applied_state : CoreState B → ℕ → ℕ → ℕ → CoreState B
  applied_state s me k i =
      let d = s.seats me in record s {
        turn = updated s.turn k 0;
        done = updated s.done k (i ∷ s.done k);
        seats = updated s.seats me (record d { turn = None; knows = record { batch = i; shard = k } ∷ d.knows });
      }

  pub applying : (s : CoreState B) → Sound count touches s → (me k i : ℕ) → Acts (s.seats me) → (s.seats me).turn ≡ Some k → i < length s.batches
      → Sound count touches (applied_state s me k i)
  applying s sound me k i acts has near = let p : Pair = record { batch = i; shard = k } in
      let more : (x q : ℕ) → Among x (s.done q) → Among x (updated s.done k (i ∷ s.done k) q) =
      λ x q a. at_put (λ (y : ℕ) (l : List ℕ). Among x (s.done y) → Among x l) s.done k (i ∷ s.done k) q (λ b. inr b) (λ _ b. b) a in
      kept_turn s sound me k 0 (updated s.done k (i ∷ s.done k)) None (p ∷ (s.seats me).knows) more record {
        acts = acts;
        known = λ q a. ⊎_elim
            (λ e. subst (λ (y : Pair). Among y.batch (updated s.done k (i ∷ s.done k) y.shard)) (sym e)
            (subst (λ (l : List ℕ). Among i l) (sym (put_here s.done k (i ∷ s.done k))) (inl refl)))
            (λ b. more q.batch q.shard ((sound.each_seat me).knows q b)) a;
        inside = λ x q a. at_put (λ (y : ℕ) (l : List ℕ). ((z : ℕ) → Among z (s.done y) → z < length s.batches) → Among x l → x < length s.batches) s.done k
            (i ∷ s.done k) q (λ f h. ⊎_elim (λ e. subst (λ (z : ℕ). z < length s.batches) (sym e) near) (λ m. f x m) h) (λ _ f h. f x h)
            (λ z m. sound.known z q m) a;
        before = λ j n e. n (suc_inj j me (sym e ∙ ((sound.each_seat me).turn k has).1));
        after = λ j e. absurd (omega arith);
        mine = λ q e. let c : None ≡ Some q = e in cc;
        only = λ q e. let c : Some k ≡ Some q = sym has ∙ e in cc;
      }

  pub kept_apply : (s : CoreState B) → Sound count touches s → (me k i : ℕ) → Acts (s.seats me) → (s.seats me).turn ≡ Some k → (s.seats me).held ≡ Some i
      → Sound count touches (after_apply count touches s me)
  kept_apply s sound me k i acts has holds =
      subst (λ (y : ℕ × ℕ). Sound count touches (applied_state s me y.0 y.1)) (λ q. (sym (ap (turn_or 0) has) q, sym (ap (held_or 0) holds) q))
      (applying s sound me k i acts has ((sound.each_seat me).held i holds).0)
