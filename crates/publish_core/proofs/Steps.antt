-- The events that change words keep the machine sound.
use Rattle.std.proofs.Common.{◌≡◌, ◌≢◌, ℕ, suc, ◌+◌, ◌*◌, ◌%◌, ◌<◌, ◌≤◌, Bool, [], ◌∷◌, ◌++◌, length, Some, None, sym, refl, ap, ◌∙◌, subst, ap₂, inl, inr, ⊎_elim, le_trans, lt_of_not-le, add-zero, length-append, arith}
use mathlib.Core.Logic.{dite}
use mathlib.Core.Option.{some-injective}
use native.Mathlib.Decide.{ℕ_discrete, dec_le}
use native.Mathlib.Nat.{add-mod_right}
use lib.ListN.{get_elem?}
use Rattle.atomic_table.proofs.Lists.{one_turn}
use Rattle.publish_core.specs.declared.seat.Claim.TheVariants.{Taken, Emptied}
use Rattle.publish_core.specs.declared.seat.Stage.{Stage}
use Rattle.publish_core.specs.declared.seat.Stage.TheVariants.{Held, Marked, Claimed, Cleared, Out}
use Rattle.publish_core.specs.declared.seat.SeatState.{SeatState}
use Rattle.publish_core.specs.declared.state.TheConstants.{SLOTS}
use Rattle.publish_core.specs.Machine.{updated, CoreState, ends, end_of, placed_seat, after_place}
use Rattle.publish_core.specs.Sound.{Full, Past, bit, InStage, Owned, BatchOk, SeatOk, Sound}
use Rattle.publish_core.proofs.Put.{put_here, put_else, at_put, put_cases, at_below, append_at, at_end, ends_append, ends_snoc, ends_less}
use Rattle.publish_core.proofs.Frame.{Evolves, still, batch_stays, owned_stays, Keeps, seats_all, own_all, turn_all, kind_all, unmade_all}
use Rattle.publish_core.proofs.Alone.{acts_made}

module _ {B : Type 0} (count : B → ℕ) (touches : B → ℕ → Bool) where
  -- what stands of a batch, at a stage that is known
  pub at_stage : (s : CoreState B) → Sound count touches s → (i : ℕ) (st : Stage) → i < length s.batches → s.stage i ≡ st → InStage count touches s i st
  at_stage s sound i st l is = subst (InStage count touches s i) is (sound.each_batch i l).stands

  pub word_at : (s : CoreState B) → Sound count touches s → (i : ℕ) (st : Stage) → i < length s.batches → s.stage i ≡ st → Full st
      → (s.ring (i % SLOTS) ≡ 2 * end_of count s i + bit st) × (length s.batches ≤ i + SLOTS)
  word_at s sound i st l is full = let w = (sound.each_batch i l).word (subst Full (sym is) full) in
      (w.0 ∙ ap (λ (x : Stage). 2 * end_of count s i + bit x) is, w.1)

  pub end_pos : (s : CoreState B) → Sound count touches s → (i : ℕ) → i < length s.batches → 0 < end_of count s i
  end_pos s sound i l = let h = ends_less count s.base s.batches sound.counted 0 (suc i) (omega arith) l in omega arith

  -- a word that stands is not 0
  pub stands_some : (s : CoreState B) → Sound count touches s → (i : ℕ) → i < length s.batches → Full (s.stage i) → s.ring (i % SLOTS) ≡ 0 → ⊥
  stands_some s sound i l full z = let w = ((sound.each_batch i l).word full).0 in let p = end_pos s sound i l in omega arith

  -- two words that stand lie in different slots
  pub apart : (s : CoreState B) → Sound count touches s → (i j : ℕ) → i < length s.batches → j < length s.batches → Full (s.stage i) → Full (s.stage j)
      → i % SLOTS ≡ j % SLOTS → i ≡ j
  apart s sound i j a b f g e = let wi = ((sound.each_batch i a).word f).1 in let wj = ((sound.each_batch j b).word g).1 in
      dite (dec_le i j) (λ le. one_turn i j SLOTS le (omega arith) e)
      (λ n. let le = lt_of_not-le n in sym (one_turn j i SLOTS (omega arith) (omega arith) (sym e)))

  -- the front, where it stands
  pub front_full : (s : CoreState B) → Sound count touches s → s.tail < length s.batches → Full (s.stage s.tail)
  front_full s sound l = go (s.stage s.tail) (sound.each_batch s.tail l).stands
    where
      go : (st : Stage) → InStage count touches s s.tail st → Full st
      go (Held j) h = tt
      go Marked h = tt
      go (Claimed j) h = tt
      go (Cleared j) h = let a = h.0 in absurd (omega arith)
      go Out h = let a = h.0 in absurd (omega arith)

  -- a seat that holds nothing has admitted all that it placed
  pub all_admitted : (s : CoreState B) → Sound count touches s → (s.seats 0).held ≡ None → length s.batches ≡ s.head
  all_admitted s sound idle =
      dite (ℕ_discrete (length s.batches) s.head) (λ e. e)
      (λ ne. let a = sound.head_length in let b = sound.length_head in let l : s.head < length s.batches = omega arith in
      go (s.stage s.head) refl l (sound.each_batch s.head l).stands)
    where
      go : (st : Stage) → s.stage s.head ≡ st → s.head < length s.batches → InStage count touches s s.head st → length s.batches ≡ s.head
      go (Held j) is l h = dite (ℕ_discrete j 0)
          (λ z. let c : None ≡ Some s.head = sym idle ∙ ap (λ (k : ℕ). (s.seats k).held) (sym z) ∙ h.1 in cc)
          (λ n. let a : s.head < s.head = (sound.each_seat j).admitted s.head n h.1 in absurd (omega arith))
      go Marked is l h = let a : s.head < s.head = h.1 in absurd (omega arith)
      go (Claimed j) is l h = let a : s.head < s.tail = h.0 in let b = sound.tail_head in absurd (omega arith)
      go (Cleared j) is l h = let a : s.head < s.tail = h.0 in let b = sound.tail_head in absurd (omega arith)
      go Out is l h = let a : s.head < s.tail = h.0 in let b = sound.tail_head in absurd (omega arith)

  pub kept_place : (s : CoreState B) → Sound count touches s → (b : B) → length s.batches ≡ s.head → (s.seats 0).held ≡ None
      → (s.seats 0).reading ≡ Some record { at = s.head % SLOTS; word = 0 } → 0 < count b
      → Sound count touches (after_place count touches s b)
  kept_place s sound b all idle read pos =
      let s' : CoreState B = after_place count touches s b in let n : ℕ = length s.batches in let d = s.seats 0 in let ok = sound.each_seat 0 in
      let d' : SeatState = placed_seat count touches d n in
      let n' : length (s.batches ++ b ∷ []) ≡ n + 1 = length-append s.batches (b ∷ []) in
      let zero_at : s.ring (s.head % SLOTS) ≡ 0 = ok.vacant _ refl read refl in
      let fits : (i : ℕ) → i < n → Full (s.stage i) → n + 1 ≤ i + SLOTS = λ i l f. let w : n ≤ i + SLOTS = ((sound.each_batch i l).word f).1 in
      dite (ℕ_discrete n (i + SLOTS))
      (λ e. let h : s.head % SLOTS ≡ i % SLOTS = ap (λ (x : ℕ). x % SLOTS) (sym all ∙ e) ∙ add-mod_right i SLOTS in
      absurd (stands_some s sound i l f (ap s.ring (sym h) ∙ zero_at))) (λ ne. omega arith) in
      let off : (i : ℕ) → i < n → Full (s.stage i) → i % SLOTS ≢ s.head % SLOTS = λ i l f e. stands_some s sound i l f (ap s.ring e ∙ zero_at) in
      let old : (i : ℕ) → i < n → i ≢ n = λ i l e. omega arith in
      let stage_old : (i : ℕ) → i < n → s'.stage i ≡ s.stage i = λ i l. put_else s.stage n (Held 0) i (old i l) in
      let owner_old : (i : ℕ) → i < n → s'.owner i ≡ s.owner i = λ i l. put_else s.owner n 0 i (old i l) in
      let th = sound.tail_head in let hl = sound.head_length in let room : n ≤ s.tail + SLOTS = sound.room in
      let ev : Evolves count touches s 0 0 = record (still count touches s 0 0) {
        to = s';
        longer = omega arith;
        same_batch = λ i l. append_at s.batches (b ∷ []) i l;
        same_end = λ i l. ends_append count s.base s.batches (b ∷ []) (suc i) l;
        held = λ i j _ _ l e. stage_old i l ∙ e;
        claimed = λ i j _ _ l e. stage_old i l ∙ e;
        cleared = λ i j _ _ l e. stage_old i l ∙ e;
        marked = λ i l e. inl (stage_old i l ∙ e);
        past = λ i l f. subst Past (sym (stage_old i l)) f;
        vacant = λ ne. absurd (ne refl);
        owner = λ i j _ _ l e. owner_old i l ∙ e;
      } in
      let here : s'.seats 0 ≡ d' = put_here s.seats 0 d' in
      let mine : SeatOk count touches s' 0 d' = record {
        held = λ i e. let is : n ≡ i = cc in subst (λ (x : ℕ). (x < length s'.batches) × (s'.stage x ≡ Held 0) × (x < suc n) × (s'.owner x ≡ 0)) is
            (let g : n < length (s.batches ++ b ∷ []) = omega arith in g, put_here s.stage n (Held 0), omega arith, put_here s.owner n 0);
        taken = λ i e. let h = ok.taken i e in (le_trans h.0 ev.longer, stage_old i h.0 ∙ h.1);
        emptied = λ i e. let h = ok.emptied i e in (le_trans h.0 ev.longer, stage_old i h.0 ∙ h.1);
        seen = omega arith;
        published = (ok.published.0, let g : d.published ≤ d.seen = ok.published.1 in let q : d.seen ≤ n = ok.seen in omega arith);
        acked = ok.acked;
        loaded = ok.loaded;
        front = λ x w a r lt is odd. let c : None ≡ Some w = r in cc;
        vacant = λ w z r zero'. let c : None ≡ Some w = r in cc;
        admitted = λ i ne. absurd (ne refl);
        knows = ok.knows;
        turn = ok.turn;
        distinct = ok.distinct;
        note = ok.note;
        owns = λ i a. let o = ok.owns i a in let q : d.seen ≤ n = ok.seen in let w : i < d.seen = o.0 in
            (let g : i < suc n = omega arith in g, owner_old i (omega arith) ∙ o.1, subst Past (sym (stage_old i (omega arith))) o.2);
      } in
      let keeps : Keeps ev sound = record {
        held = λ i j l _ _. at_put (λ (k : ℕ) (x : SeatState). (s.seats k).held ≡ Some i → x.held ≡ Some i) s.seats 0 d' j
            (λ q. let c : None ≡ Some i = sym idle ∙ q in cc) (λ _ q. q);
        taken = λ i j l _ _. at_put (λ (k : ℕ) (x : SeatState). (s.seats k).claim ≡ Taken i → x.claim ≡ Taken i) s.seats 0 d' j (λ q. q) (λ _ q. q);
        emptied = λ i j l _ _. at_put (λ (k : ℕ) (x : SeatState). (s.seats k).claim ≡ Emptied i → x.claim ≡ Emptied i) s.seats 0 d' j (λ q. q) (λ _ q. q);
      } in
      let whole : length s'.batches ≡ n + 1 = n' in
      let new : BatchOk count touches s' n = record {
        stands = subst (InStage count touches s' n) (sym (put_here s.stage n (Held 0)))
            (let g : s.tail ≤ n = omega arith in g, ap (λ (x : SeatState). x.held) here);
        word = λ _. (
          ap (updated s.ring (s.head % SLOTS) (2 * (ends count s.base s.batches n + count b))) (ap (λ (x : ℕ). x % SLOTS) all)
              ∙ put_here s.ring (s.head % SLOTS) (2 * (ends count s.base s.batches n + count b))
              ∙ sym (add-zero (2 * (ends count s.base s.batches n + count b)))
              ∙ ap₂ (λ (x : ℕ) (st : Stage). 2 * x + bit st) (sym (ends_snoc count s.base s.batches b)) (sym (put_here s.stage n (Held 0))),
          omega arith,
        );
        owned = subst (Owned count touches s' n) (sym (put_here s.stage n (Held 0))) (put_here s.owner n 0);
      } in
      record {
        tail_head = th;
        head_length = omega arith;
        length_head = omega arith;
        room = dite (ℕ_discrete n s.tail) (λ e. omega arith)
            (λ ne. let l : s.tail < n = omega arith in let g = fits s.tail l (front_full s sound l) in omega arith);
        published_tail = sound.published_tail;
        acked_head = sound.acked_head;
        counted = λ i x e. dite (ℕ_discrete i n)
            (λ is. let c : b ≡ x = some-injective b x (sym (at_end s.batches b) ∙ ap (get_elem? (s.batches ++ b ∷ [])) (sym is) ∙ e) in
            subst (λ (y : B). 0 < count y) c pos)
            (λ ne. let l = at_below (s.batches ++ b ∷ []) i x e in let l' : i < n = omega arith in
            sound.counted i x (sym (append_at s.batches (b ∷ []) i l') ∙ e));
        known = λ i k a. let l = sound.known i k a in omega arith;
        each_batch = λ i l. dite (ℕ_discrete i n) (λ is. subst (BatchOk count touches s') (sym is) new)
            (λ ne. let l' : i < n = omega arith in let bo = sound.each_batch i l' in
            batch_stays ev sound keeps i l' (λ t. t) (stage_old i l') (λ f. put_else s.ring (s.head % SLOTS) _ (i % SLOTS) (off i l' f))
            (λ f. let g = fits i l' f in omega arith)
            (owned_stays ev sound i (owner_old i l') (own_all d' ev sound refl (λ q a. a) i (s.owner i)) (s.stage i) bo.owned) bo);
        each_slot = λ k small. ⊎_elim
            (λ (c : (k ≡ s.head % SLOTS) × (s'.ring k ≡ 2 * (ends count s.base s.batches n + count b))). inr (
              n,
              let g : n < length (s.batches ++ b ∷ []) = omega arith in
                  g,
              ap (λ (x : ℕ). x % SLOTS) all ∙ sym c.0,
              subst Full (sym (put_here s.stage n (Held 0))) tt,
            ))
            (λ (c : (k ≢ s.head % SLOTS) × (s'.ring k ≡ s.ring k)). ⊎_elim (λ z. inl (c.1 ∙ z))
            (λ (x : (i : ℕ) × (i < n) × (i % SLOTS ≡ k) × Full (s.stage i)). inr (
              x.0,
              let g : x.0 < n = x.1 in let g' : x.0 < length (s.batches ++ b ∷ []) = omega arith in
                  g',
              x.2,
              subst Full (sym (stage_old x.0 x.1)) x.3,
            )) (sound.each_slot k small))
            (put_cases s.ring (s.head % SLOTS) (2 * (ends count s.base s.batches n + count b)) k);
        each_turn = λ k j e. let t = sound.each_turn k j e in (t.0, turn_all d' ev sound refl refl k j t.1);
        each_seat = seats_all d' ev sound refl mine;
        producer = kind_all d' ev sound refl refl;
        unmade = unmade_all d' ev sound refl (acts_made count touches s sound 0 (inl sound.producer));
      }
