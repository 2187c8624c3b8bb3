-- Taking a batch from the front, emptying its slot and publishing it keep the machine sound.
use Rattle.std.proofs.Common.{◌≡◌, ℕ, suc, ◌+◌, ◌%◌, ◌<◌, ◌≤◌, max, Bool, length, Some, None, sym, refl, ap, ◌∙◌, subst, inl, inr, le_refl, arith}
use Rattle.publish_core.specs.declared.seat.Claim.TheVariants.{Free, Taken, Emptied}
use Rattle.publish_core.specs.declared.seat.Stage.TheVariants.{Marked, Claimed, Cleared, Out}
use Rattle.publish_core.specs.declared.seat.SeatState.{SeatState}
use Rattle.publish_core.specs.declared.state.TheConstants.{SLOTS}
use Rattle.publish_core.specs.Machine.{updated, CoreState, Acts, taken_or, won, after_claim_won, after_empty, after_raise}
use Rattle.publish_core.specs.Sound.{Full, Sound}
use Rattle.publish_core.proofs.Put.{put_here, put_else, at_put}
use Rattle.publish_core.proofs.Steps.{at_stage, word_at, apart}
use Rattle.publish_core.proofs.Moves.{moved}

module _ {B : Type 0} (count : B → ℕ) (touches : B → ℕ → Bool) where
  pub kept_claim_won : (s : CoreState B) → Sound count touches s → (me : ℕ) → Acts (s.seats me) → (s.seats me).claim ≡ Free → s.tail < s.head
      → s.stage s.tail ≡ Marked → Sound count touches (after_claim_won count touches s me)
  kept_claim_won s sound me acts free lt is =
      let x : ℕ = s.tail in let d : SeatState = won count touches (s.seats me) x in let ok = sound.each_seat me in
      let hl = sound.head_length in let pt = sound.published_tail in let l : x < length s.batches = omega arith in
      let w = word_at count touches s sound x Marked l is tt in
      let seen : (s.seats me).seen ≤ length s.batches = ok.seen in let out : (s.seats me).published ≤ (s.seats me).seen = ok.published.1 in
      let behind : x < s.tail + 1 = omega arith in
      moved count touches s sound me x Marked (Claimed me) d s.ring (s.tail + 1) s.published record {
        acts = acts;
        near = l;
        is = is;
        alone = λ j n. ((λ q. cc), (λ q. cc), (λ q. cc));
        past = tt;
        changes = λ q. cc;
        front = λ _. behind;
        ends = (omega arith, omega arith, le_refl s.published, omega arith);
        behind = λ i ne t. omega arith;
        vacant = λ k z. z;
        words = λ i l' ne f. refl;
        slot = λ _. inr tt;
        word = λ _. w;
        stands = (behind, ap (λ (y : SeatState). y.claim) (put_here s.seats me d), (at_stage count touches s sound x Marked l is).2);
        owned = λ own o. own x (s.owner x) o;
        same = (refl, refl, refl, refl);
        seen = (omega arith, omega arith);
        out = (ok.published.0, omega arith);
        loaded = λ e a. let c : None ≡ Some e = a in cc;
        reading = λ v a. let c : None ≡ Some v = a in cc;
        held = λ i _ q. q;
        taken = λ i _ q. let c : Free ≡ Taken i = sym free ∙ q in cc;
        emptied = λ i _ q. let c : Free ≡ Emptied i = sym free ∙ q in cc;
        holds = λ i e. ((λ q. cc), e);
        takes = λ i e. let q : x ≡ i = cc in inl (sym q, refl);
        empties = λ i e. let c : Taken x ≡ Emptied i = e in cc;
        own = λ i a. a;
        owns = λ i a. inr a;
        distinct = ok.distinct;
      }

  abbrev pub emptied_state : CoreState B → ℕ → ℕ → CoreState B
  emptied_state s me x =
      record s {
        stage = updated s.stage x (Cleared me);
        ring = updated s.ring (x % SLOTS) 0;
        seats = updated s.seats me (record (s.seats me) { claim = Emptied x });
      }

  pub emptying : (s : CoreState B) → Sound count touches s → (me x : ℕ) → Acts (s.seats me) → (s.seats me).claim ≡ Taken x
      → Sound count touches (emptied_state s me x)
  emptying s sound me x acts claims =
      let d : SeatState = record (s.seats me) { claim = Emptied x } in let ok = sound.each_seat me in
      let h = ok.taken x claims in let l : x < length s.batches = h.0 in let full : Full (s.stage x) = subst Full (sym h.1) tt in
      let old = at_stage count touches s sound x (Claimed me) l h.1 in
      moved count touches s sound me x (Claimed me) (Cleared me) d (updated s.ring (x % SLOTS) 0) s.tail s.published record {
        acts = acts;
        near = l;
        is = h.1;
        alone = λ j n. ((λ q. cc), (λ q. n cc), (λ q. cc));
        past = tt;
        changes = λ q. cc;
        front = λ q. cc;
        ends = (le_refl s.tail, sound.tail_head, le_refl s.published, sound.published_tail);
        behind = λ i ne t. t;
        vacant = λ k z. at_put (λ (q : ℕ) (y : ℕ). s.ring q ≡ 0 → y ≡ 0) s.ring (x % SLOTS) 0 k (λ _. refl) (λ _ q. q) z;
        words = λ i l' ne f. put_else s.ring (x % SLOTS) 0 (i % SLOTS) (λ q. ne (apart count touches s sound i x l' l f full q));
        slot = λ _. inl (put_here s.ring (x % SLOTS) 0);
        word = λ f. absurd f;
        stands = (old.0, ap (λ (y : SeatState). y.claim) (put_here s.seats me d), old.2);
        owned = λ own o. own x (s.owner x) o;
        same = (refl, refl, refl, refl);
        seen = (le_refl d.seen, ok.seen);
        out = ok.published;
        loaded = λ e a. a;
        reading = λ v a. a;
        held = λ i _ q. q;
        taken = λ i ne q. let z : x ≡ i = let c : Taken x ≡ Taken i = sym claims ∙ q in cc in absurd (ne (sym z));
        emptied = λ i _ q. let c : Taken x ≡ Emptied i = sym claims ∙ q in cc;
        holds = λ i e. ((λ q. cc), e);
        takes = λ i e. let c : Emptied x ≡ Taken i = e in cc;
        empties = λ i e. let q : x ≡ i = cc in inl (sym q, refl);
        own = λ i a. a;
        owns = λ i a. inr a;
        distinct = ok.distinct;
      }

  pub kept_empty : (s : CoreState B) → Sound count touches s → (me x : ℕ) → Acts (s.seats me) → (s.seats me).claim ≡ Taken x
      → Sound count touches (after_empty count touches s me)
  kept_empty s sound me x acts claims =
      subst (λ (y : ℕ). Sound count touches (emptied_state s me y)) (sym (ap (taken_or 0) claims)) (emptying s sound me x acts claims)

  abbrev pub raised_state : CoreState B → ℕ → ℕ → CoreState B
  raised_state s me x = let d = s.seats me in let n = max s.published (suc x) in
      record s { stage = updated s.stage x Out; published = n; seats = updated s.seats me (record d { claim = Free; published = n; seen = max d.seen n }) }

  pub raising : (s : CoreState B) → Sound count touches s → (me x : ℕ) → Acts (s.seats me) → (s.seats me).claim ≡ Emptied x
      → Sound count touches (raised_state s me x)
  raising s sound me x acts claims =
      let n : ℕ = max s.published (suc x) in let d : SeatState = record (s.seats me) { claim = Free; published = n; seen = max (s.seats me).seen n } in
      let ok = sound.each_seat me in let h = ok.emptied x claims in let l : x < length s.batches = h.0 in
      let old = at_stage count touches s sound x (Cleared me) l h.1 in let behind : x < s.tail = old.0 in
      let pt = sound.published_tail in let th = sound.tail_head in let hl = sound.head_length in
      let seen : (s.seats me).seen ≤ length s.batches = ok.seen in
      moved count touches s sound me x (Cleared me) Out d s.ring s.tail n record {
        acts = acts;
        near = l;
        is = h.1;
        alone = λ j ne. ((λ q. cc), (λ q. cc), (λ q. ne cc));
        past = tt;
        changes = λ q. cc;
        front = λ q. cc;
        ends = (le_refl s.tail, th, omega arith, omega arith);
        behind = λ i ne t. t;
        vacant = λ k z. z;
        words = λ i l' ne f. refl;
        slot = λ f. absurd f;
        word = λ f. absurd f;
        stands = (old.0, old.2);
        owned = λ own o. own x (s.owner x) o;
        same = (refl, refl, refl, refl);
        seen = (omega arith, omega arith);
        out = (le_refl n, omega arith);
        loaded = λ e a. a;
        reading = λ v a. a;
        held = λ i _ q. q;
        taken = λ i _ q. let c : Emptied x ≡ Taken i = sym claims ∙ q in cc;
        emptied = λ i ne q. let z : x ≡ i = let c : Emptied x ≡ Emptied i = sym claims ∙ q in cc in absurd (ne (sym z));
        holds = λ i e. ((λ q. cc), e);
        takes = λ i e. let c : Free ≡ Taken i = e in cc;
        empties = λ i e. let c : Free ≡ Emptied i = e in cc;
        own = λ i a. a;
        owns = λ i a. inr a;
        distinct = ok.distinct;
      }

  pub kept_raise : (s : CoreState B) → Sound count touches s → (me x : ℕ) → Acts (s.seats me) → (s.seats me).claim ≡ Emptied x
      → Sound count touches (after_raise count touches s me)
  kept_raise s sound me x acts claims =
      subst (λ (y : ℕ). Sound count touches (raised_state s me y)) (sym (ap (taken_or 0) claims)) (raising s sound me x acts claims)
