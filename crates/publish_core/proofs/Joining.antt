-- Cutting a seat in two, joining two seats, and the turns on the shards keep the machine sound.
use Rattle.std.proofs.Common.{◌≡◌, ◌≢◌, ℕ, ◌+◌, ◌*◌, ◌%◌, ◌<◌, ◌≤◌, Bool, length, Option, Some, None, sym, refl, ap, ◌∙◌, subst, inl, inr, ⊎_elim, le_refl, arith}
use mathlib.Core.Logic.{dite}
use native.Mathlib.Decide.{ℕ_discrete}
use Rattle.publish_core.specs.declared.seat.Kind.{Kind}
use Rattle.publish_core.specs.declared.seat.Kind.TheVariants.{Note}
use Rattle.publish_core.specs.declared.seat.Claim.TheVariants.{Free, Taken, Emptied}
use Rattle.publish_core.specs.declared.seat.Stage.{Stage}
use Rattle.publish_core.specs.declared.seat.Stage.TheVariants.{Held, Marked, Claimed, Cleared}
use Rattle.publish_core.specs.declared.seat.Pair.{Pair}
use Rattle.publish_core.specs.declared.seat.SeatState.{SeatState}
use Rattle.publish_core.specs.declared.state.TheConstants.{SLOTS}
use Rattle.publish_core.specs.Machine.{updated, Among, CoreState, end_of, nobody, shown_seat, after_tell, after_hand}
use Rattle.publish_core.specs.Sound.{Full, Past, bit, InStage, Owned, BatchOk, SeatOk, Sound}
use Rattle.publish_core.proofs.Put.{put_here, put_else, at_put}
use Rattle.publish_core.proofs.Frame.{Evolves, still, seat_stays, front_stays, batch_stays, owned_stays, Keeps, seats_all, keeps_all, own_all, turn_all}
use Rattle.publish_core.proofs.Steps.{at_stage, word_at}
use Rattle.publish_core.proofs.Alone.{acts_made, none_is_some}

module _ {B : Type 0} (count : B → ℕ) (touches : B → ℕ → Bool) where
  -- a new seat that has seen what d has seen, and holds what is said of it
  pub shown_ok : (s : CoreState B) (j : ℕ) (d : SeatState) (k : Kind) (held : Option ℕ)
      → ((i : ℕ) → held ≡ Some i → (i < length s.batches) × (s.stage i ≡ Held j) × (i < d.seen) × (s.owner i ≡ j))
      → ((i : ℕ) → j ≢ 0 → held ≡ Some i → i < s.head)
      → d.seen ≤ length s.batches → (d.published ≤ s.published) × (d.published ≤ d.seen) → d.acked ≤ s.acked
      → ((p : Pair) → Among p d.knows → Among p.batch (s.done p.shard)) → SeatOk count touches s j (shown_seat d k held)
  shown_ok s j d k held holds admitted seen published acked knows = record {
    held = holds;
    admitted = admitted;
    taken = λ i e. let c : Free ≡ Taken i = e in cc;
    emptied = λ i e. let c : Free ≡ Emptied i = e in cc;
    seen = seen;
    published = published;
    acked = acked;
    loaded = λ e a. none_is_some count touches a;
    front = λ e v a b lt at odd. none_is_some count touches a;
    vacant = λ v z e zero'. none_is_some count touches e;
    knows = knows;
    turn = λ k e. none_is_some count touches e;
    owns = λ i a. absurd a;
    distinct = tt;
    note = λ e. (refl, refl);
  }

  -- a seat that has seen nothing
  pub fresh_ok : (s : CoreState B) (j : ℕ) (k : Kind) → SeatOk count touches s j (record nobody { kind = k })
  fresh_ok s j k = shown_ok s j nobody k None (λ i e. none_is_some count touches e) (λ i n e. none_is_some count touches e)
      (omega arith) (omega arith, omega arith) (omega arith) (λ p a. absurd a)

  -- a new seat that is only shown what d has seen
  pub kept_tell : (s : CoreState B) → Sound count touches s → (from : ℕ) (k : Kind) → Sound count touches (after_tell count touches s from k)
  kept_tell s sound from k =
      let me : ℕ = s.made in let d : SeatState = shown_seat (s.seats from) k None in let s' : CoreState B = after_tell count touches s from k in
      let ok = sound.each_seat from in
      let none : s.seats me ≡ nobody = sound.unmade me (le_refl me) in
      let ev : Evolves count touches s me me = record (still count touches s me me) { to = s' } in
      let keeps : Keeps ev sound = keeps_all d ev sound refl (ap (λ (x : SeatState). x.held) (sym none)) (ap (λ (x : SeatState). x.claim) (sym none)) in
      let owned : (i : ℕ) (o : ℕ) → Among i (s.seats o).own → Among i (s'.seats o).own =
      own_all d ev sound refl (λ q a. subst (λ (x : SeatState). Among q x.own) none a) in
      let made : 0 < s.made = acts_made count touches s sound 0 (inl sound.producer) in
      record {
        tail_head = sound.tail_head;
        head_length = sound.head_length;
        length_head = sound.length_head;
        room = sound.room;
        published_tail = sound.published_tail;
        acked_head = sound.acked_head;
        counted = sound.counted;
        known = sound.known;
        each_batch = λ i l. let b = sound.each_batch i l in batch_stays ev sound keeps i l (λ t. t) refl (λ _. refl) (λ f. (b.word f).1)
            (owned_stays ev sound i refl (owned i (s.owner i)) (s.stage i) b.owned) b;
        each_slot = sound.each_slot;
        each_turn = λ q j e. let t = sound.each_turn q j e in (t.0, turn_all d ev sound refl (ap (λ (x : SeatState). x.turn) (sym none)) q j t.1);
        each_seat = seats_all d ev sound refl (shown_ok s' me (s.seats from) k None (λ i e. none_is_some count touches e)
            (λ i n e. none_is_some count touches e) ok.seen ok.published ok.acked ok.knows);
        producer = ap (λ (x : SeatState). x.kind) (put_else s.seats me d 0 (λ e. omega arith)) ∙ sound.producer;
        unmade = λ j le. put_else s.seats me d j (λ e. let g : s.made + 1 ≤ j = le in omega arith)
            ∙ sound.unmade j (let g : s.made + 1 ≤ j = le in omega arith);
      }

  -- the batch x goes from the producer to a new note
  pub kept_hand : (s : CoreState B) → Sound count touches s → (x : ℕ) → (s.seats 0).held ≡ Some x → x < s.head
      → Sound count touches (after_hand count touches s x)
  kept_hand s sound x holds admitted =
      let you : ℕ = s.made in let p : SeatState = s.seats 0 in let d0 : SeatState = record p { held = None } in
      let d : SeatState = shown_seat p Note (Some x) in let s' : CoreState B = after_hand count touches s x in
      let ok = sound.each_seat 0 in let h = ok.held x holds in let l : x < length s.batches = h.0 in let is : s.stage x ≡ Held 0 = h.1 in
      let none : s.seats you ≡ nobody = sound.unmade you (le_refl you) in let made : 0 < s.made = acts_made count touches s sound 0 (inl sound.producer) in
      let full : Full (s.stage x) = subst Full (sym is) tt in let w = word_at count touches s sound x (Held 0) l is tt in
      let stage_old : (i : ℕ) → i ≢ x → s'.stage i ≡ s.stage i = λ i ne. put_else s.stage x (Held you) i ne in
      let owner_old : (i : ℕ) → i ≢ x → s'.owner i ≡ s.owner i = λ i ne. put_else s.owner x you i ne in
      let here : s'.stage x ≡ Held you = put_here s.stage x (Held you) in
      let not_x : (i : ℕ) (st : Stage) → s.stage i ≡ st → st ≢ Held 0 → i ≢ x = λ i st e ne q. ne (sym e ∙ ap s.stage q ∙ is) in
      let at_you : s'.seats you ≡ d = put_here (updated s.seats 0 d0) you d in
      let at_else : (j : ℕ) → j ≢ you → s'.seats j ≡ updated s.seats 0 d0 j = λ j n. put_else (updated s.seats 0 d0) you d j n in
      let at_zero : s'.seats 0 ≡ d0 = at_else 0 (λ e. omega arith) ∙ put_here s.seats 0 d0 in
      let at_old : (j : ℕ) → j ≢ 0 → j ≢ you → s'.seats j ≡ s.seats j = λ j a b. at_else j b ∙ put_else s.seats 0 d0 j a in
      -- a fact of the old seats that both changed seats keep
      let all : (P Q : ℕ → SeatState → Type 0) → (P 0 p → Q 0 d0) → (P you nobody → Q you d) → ((j : ℕ) → j ≢ 0 → j ≢ you → P j (s.seats j) → Q j (s.seats j))
      → (j : ℕ) → P j (s.seats j) → Q j (s'.seats j) =
      λ P Q f g k j h. dite (ℕ_discrete j you)
      (λ e. subst (λ (y : ℕ). Q y (s'.seats y)) (sym e) (subst (Q you) (sym at_you) (g (subst (P you) none (subst (λ (y : ℕ). P y (s.seats y)) e h)))))
      (λ ny. dite (ℕ_discrete j 0) (λ e. subst (λ (y : ℕ). Q y (s'.seats y)) (sym e) (subst (Q 0) (sym at_zero) (f (subst (λ (y : ℕ). P y (s.seats y)) e h))))
      (λ nz. subst (Q j) (sym (at_old j nz ny)) (k j nz ny h))) in
      let ev : Evolves count touches s 0 you = record (still count touches s 0 you) {
        to = s';
        held = λ i j ne _ _ e. stage_old i (not_x i (Held j) e (λ q. ne cc)) ∙ e;
        claimed = λ i j ne _ _ e. stage_old i (not_x i (Claimed j) e (λ q. cc)) ∙ e;
        cleared = λ i j ne _ _ e. stage_old i (not_x i (Cleared j) e (λ q. cc)) ∙ e;
        marked = λ i _ e. inl (stage_old i (not_x i Marked e (λ q. cc)) ∙ e);
        past = λ i _ f. subst Past (sym (stage_old i (λ q. subst Past (ap s.stage q ∙ is) f))) f;
        owner = λ i j ne _ _ e. owner_old i (λ q. ne (sym e ∙ ap s.owner q ∙ h.3)) ∙ e;
      } in
      let keeps : Keeps ev sound = record {
        held = λ i j l a b e. all (λ k y. (k ≡ j) × (y.held ≡ Some i)) (λ k y. y.held ≡ Some i)
            (λ q. let same : x ≡ i = let c : Some x ≡ Some i = sym holds ∙ q.1 in cc in let c : Held you ≡ Held j = sym here ∙ ap s'.stage same ∙ b in
            let c' : you ≡ j = cc in let c'' : 0 ≡ j = q.0 in absurd (omega arith))
            (λ q. let c : None ≡ Some i = q.1 in cc) (λ _ _ _ q. q.1) j (refl, e);
        taken = λ i j l _ _ e. all (λ k y. y.claim ≡ Taken i) (λ k y. y.claim ≡ Taken i) (λ q. q) (λ q. let c : Free ≡ Taken i = q in cc) (λ _ _ _ q. q) j e;
        emptied = λ i j l _ _ e. all (λ k y. y.claim ≡ Emptied i) (λ k y. y.claim ≡ Emptied i) (λ q. q) (λ q. let c : Free ≡ Emptied i = q in cc)
            (λ _ _ _ q. q) j e;
      } in
      let owned : (i j : ℕ) → Among i (s.seats j).own → Among i (s'.seats j).own =
      λ i j e. all (λ k y. Among i y.own) (λ k y. Among i y.own) (λ q. q) (λ q. q) (λ _ _ _ q. q) j e in
      let far : (j : ℕ) → j ≢ 0 → j ≢ you → SeatOk count touches s' j (s.seats j) = λ j a b. seat_stays ev sound j (s.seats j) a b (sound.each_seat j) in
      record {
        tail_head = sound.tail_head;
        head_length = sound.head_length;
        length_head = sound.length_head;
        room = sound.room;
        published_tail = sound.published_tail;
        acked_head = sound.acked_head;
        counted = sound.counted;
        known = sound.known;
        each_batch = λ i l'. let b = sound.each_batch i l' in dite (ℕ_discrete i x)
            (λ q. subst (BatchOk count touches s') (sym q) record {
              stands = subst (InStage count touches s' x) (sym here)
                  ((at_stage count touches s sound x (Held 0) l is).0, ap (λ (y : SeatState). y.held) at_you);
              word = λ _. (w.0 ∙ ap (λ (st : Stage). 2 * end_of count s x + bit st) (sym here), w.1);
              owned = subst (Owned count touches s' x) (sym here) (put_here s.owner x you);
            })
            (λ ne. batch_stays ev sound keeps i l' (λ t. t) (stage_old i ne) (λ _. refl) (λ f. (b.word f).1)
            (owned_stays ev sound i (owner_old i ne) (owned i (s.owner i)) (s.stage i) b.owned) b);
        each_slot = λ k small. ⊎_elim (λ z. inl z)
            (λ (y : (i : ℕ) × (i < length s.batches) × (i % SLOTS ≡ k) × Full (s.stage i)).
            inr (y.0, y.1, y.2, at_put (λ (q : ℕ) (st : Stage). Full (s.stage q) → Full st) s.stage x (Held you) y.0 (λ _. tt) (λ _ f. f) y.3))
            (sound.each_slot k small);
        each_turn = λ k j e. let t = sound.each_turn k j e in
            (t.0, all (λ q y. y.turn ≡ Some k) (λ q y. y.turn ≡ Some k) (λ q. q) (λ q. let c : None ≡ Some k = q in cc) (λ _ _ _ q. q) j t.1);
        each_seat = λ j. all (λ k y. Unit {0}) (λ k y. SeatOk count touches s' k y)
            (λ _. record {
              held = λ i e. let c : None ≡ Some i = e in cc;
              admitted = λ i n e. let c : None ≡ Some i = e in cc;
              taken = λ i e. let t = ok.taken i e in (t.0, stage_old i (not_x i (Claimed 0) t.1 (λ q. cc)) ∙ t.1);
              emptied = λ i e. let t = ok.emptied i e in (t.0, stage_old i (not_x i (Cleared 0) t.1 (λ q. cc)) ∙ t.1);
              seen = ok.seen;
              published = ok.published;
              acked = ok.acked;
              loaded = ok.loaded;
              front = λ e v a b lt at odd. let hl = sound.head_length in let g : e.head ≤ s.head = (ok.loaded e a).0 in
                  front_stays ev sound e v (omega arith) (ok.front e v a b lt at odd);
              vacant = ok.vacant;
              knows = ok.knows;
              turn = ok.turn;
              owns = λ i a. let o = ok.owns i a in let ne : i ≢ x = λ q. subst Past (ap s.stage q ∙ is) o.2 in
                  (o.0, owner_old i ne ∙ o.1, subst Past (sym (stage_old i ne)) o.2);
              distinct = ok.distinct;
              note = ok.note;
            })
            (λ _. shown_ok s' you p Note (Some x)
            (λ i e. let q : x ≡ i = cc in
            subst (λ (y : ℕ). (y < length s.batches) × (s'.stage y ≡ Held you) × (y < p.seen) × (s'.owner y ≡ you)) q
            (l, here, h.2, put_here s.owner x you))
            (λ i n e. let q : x ≡ i = cc in subst (λ (y : ℕ). y < s.head) q admitted)
            ok.seen ok.published ok.acked ok.knows)
            (λ j a b _. far j a b) j tt;
        producer = ap (λ (y : SeatState). y.kind) at_zero ∙ sound.producer;
        unmade = λ j le. let g : s.made + 1 ≤ j = le in at_old j (λ e. omega arith) (λ e. omega arith) ∙ sound.unmade j (omega arith);
      }
