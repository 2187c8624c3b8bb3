-- Admitting, marking, taking from the front, emptying and publishing keep the machine sound.
use Rattle.std.proofs.Common.{◌≡◌, ℕ, suc, ◌+◌, ◌*◌, ◌%◌, ◌<◌, ◌≤◌, max, Bool, ◌∷◌, length, Some, None, sym, refl, ap, ◌∙◌, subst, inl, inr, ⊎_elim, le_refl, le_trans, arith}
use Rattle.publish_core.specs.declared.seat.Stage.TheVariants.{Held, Marked}
use Rattle.publish_core.specs.declared.seat.SeatState.{SeatState}
use Rattle.publish_core.specs.declared.state.TheConstants.{SLOTS}
use Rattle.publish_core.specs.Machine.{updated, Among, CoreState, end_of, Acts, KnowsAll, held_or, after_admit, after_mark}
use Rattle.publish_core.specs.Sound.{Full, Past, Sound}
use Rattle.publish_core.proofs.Put.{put_here, put_else}
use Rattle.publish_core.proofs.Frame.{Evolves, still, seat_stays, batch_stays, owned_stays, Keeps}
use Rattle.publish_core.proofs.Steps.{at_stage, word_at, end_pos, apart}
use Rattle.publish_core.proofs.Moves.{moved}

module _ {B : Type 0} (count : B → ℕ) (touches : B → ℕ → Bool) where
  -- what changes no more than how many batches are admitted and how many are acked
  gone_on : (s : CoreState B) → Sound count touches s → (h a : ℕ) → s.head ≤ h → h ≤ length s.batches → length s.batches ≤ h + 1
      → s.acked ≤ a → a ≤ h → Sound count touches (record s { head = h; acked = a })
  gone_on s sound h a up within near more below =
      let s' : CoreState B = record s { head = h; acked = a } in
      let ev : (me : ℕ) → Evolves count touches s me me =
      λ me. record (still count touches s me me) { to = s'; head = up; acked = more } in
      let keeps : Keeps (ev 0) sound = record { held = λ i j l _ _ e. e; taken = λ i j l _ _ e. e; emptied = λ i j l _ _ e. e } in
      record {
        tail_head = le_trans sound.tail_head up;
        head_length = within;
        length_head = near;
        room = sound.room;
        published_tail = sound.published_tail;
        acked_head = below;
        counted = sound.counted;
        known = sound.known;
        each_batch = λ i l. let b = sound.each_batch i l in
            batch_stays (ev 0) sound keeps i l (λ t. t) refl (λ _. refl) (λ f. (b.word f).1)
            (owned_stays (ev 0) sound i refl (λ a. a) (s.stage i) b.owned) b;
        each_slot = sound.each_slot;
        each_turn = sound.each_turn;
        each_seat = λ j. seat_stays (ev (suc j)) sound j (s.seats j) (λ e. omega arith) (λ e. omega arith) (sound.each_seat j);
        producer = sound.producer;
        unmade = sound.unmade;
      }

  pub kept_admit : (s : CoreState B) → Sound count touches s → length s.batches ≡ s.head + 1 → Sound count touches (after_admit count touches s)
  kept_admit s sound more = let ah = sound.acked_head in
      gone_on s sound (s.head + 1) s.acked (omega arith) (omega arith) (omega arith) (le_refl s.acked) (omega arith)

  pub kept_raise_acked : (s : CoreState B) → Sound count touches s → (n : ℕ) → n ≤ s.head → Sound count touches (record s { acked = max s.acked n })
  kept_raise_acked s sound n small = let ah = sound.acked_head in
      gone_on s sound s.head (max s.acked n) (le_refl s.head) sound.head_length sound.length_head (omega arith) (omega arith)

  abbrev pub marked_state : CoreState B → ℕ → ℕ → CoreState B
  marked_state s me x =
      record s {
        stage = updated s.stage x Marked;
        ring = updated s.ring (x % SLOTS) (s.ring (x % SLOTS) + 1);
        seats = updated s.seats me (record (s.seats me) { held = None; own = x ∷ (s.seats me).own });
      }

  pub marking : (s : CoreState B) → Sound count touches s → (me i : ℕ) → Acts (s.seats me) → (s.seats me).held ≡ Some i → i < s.head
      → KnowsAll count touches s (s.seats me) i → Sound count touches (marked_state s me i)
  marking s sound me x acts holds admitted knows =
      let d : SeatState = record (s.seats me) { held = None; own = x ∷ (s.seats me).own } in let ok = sound.each_seat me in
      let h = ok.held x holds in let l : x < length s.batches = h.0 in let full : Full (s.stage x) = subst Full (sym h.1) tt in
      let w = word_at count touches s sound x (Held me) l h.1 tt in let pos = end_pos count touches s sound x l in
      let r : ℕ = s.ring (x % SLOTS) in let wd : r ≡ 2 * end_of count s x + 0 = w.0 in
      let odd : r + 1 ≡ 2 * end_of count s x + 1 = omega arith in
      moved count touches s sound me x (Held me) Marked d (updated s.ring (x % SLOTS) (r + 1)) s.tail s.published record {
        acts = acts;
        near = l;
        is = h.1;
        alone = λ j n. ((λ q. n cc), (λ q. cc), (λ q. cc));
        past = tt;
        changes = λ q. cc;
        front = λ q. cc;
        ends = (le_refl s.tail, sound.tail_head, le_refl s.published, sound.published_tail);
        behind = λ i ne t. t;
        vacant = λ k z. put_else s.ring (x % SLOTS) (r + 1) k (λ q. let z' : r ≡ 0 = ap s.ring (sym q) ∙ z in omega arith) ∙ z;
        words = λ i l' ne f. put_else s.ring (x % SLOTS) (r + 1) (i % SLOTS)
            (λ q. ne (apart count touches s sound i x l' l f full q));
        slot = λ _. inr tt;
        word = λ _. (put_here s.ring (x % SLOTS) (r + 1) ∙ odd, w.1);
        stands = (
          (at_stage count touches s sound x (Held me) l h.1).0,
          admitted,
          λ y k at has. ok.knows record { batch = x; shard = k } (knows y k at has),
        );
        owned = λ _ o. subst (λ (y : ℕ). Among x (updated s.seats me d y).own) (sym o)
            (subst (λ (y : SeatState). Among x y.own) (sym (put_here s.seats me d)) (inl refl));
        same = (refl, refl, refl, refl);
        seen = (le_refl d.seen, ok.seen);
        out = ok.published;
        loaded = λ e a. a;
        reading = λ v a. a;
        held = λ i ne q. let z : x ≡ i = let c : Some x ≡ Some i = sym holds ∙ q in cc in absurd (ne (sym z));
        taken = λ i _ q. q;
        emptied = λ i _ q. q;
        holds = λ i e. let c : None ≡ Some i = e in cc;
        takes = λ i e. inr ((λ q. cc), e);
        empties = λ i e. inr ((λ q. cc), e);
        own = λ i a. inr a;
        owns = λ i. ⊎_elim (λ e. inl (e, h.2, h.3)) (λ a. inr a);
        distinct = ((λ a. subst Past h.1 (ok.owns x a).2), ok.distinct);
      }

  pub kept_mark : (s : CoreState B) → Sound count touches s → (me i : ℕ) → Acts (s.seats me) → (s.seats me).held ≡ Some i → i < s.head
      → KnowsAll count touches s (s.seats me) i → Sound count touches (after_mark count touches s me)
  kept_mark s sound me x acts holds admitted knows =
      subst (λ (y : ℕ). Sound count touches (marked_state s me y)) (sym (ap (held_or 0) holds)) (marking s sound me x acts holds admitted knows)
