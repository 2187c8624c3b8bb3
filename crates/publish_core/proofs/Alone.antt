-- The events of one seat that change no word.
use Rattle.std.proofs.Common.{◌≡◌, ℕ, ◌+◌, ◌*◌, ◌%◌, ◌<◌, ◌≤◌, max, Bool, length, Option, Some, None, sym, refl, ap, ◌∙◌, subst, inl, inr, ⊎_elim, le_refl, le_trans, lt_of_not-le, arith}
use mathlib.Core.Logic.{dite}
use native.Mathlib.Decide.{dec_le}
use Rattle.publish_core.specs.declared.seat.Kind.TheVariants.{Producer, Note, Worker, Spent}
use Rattle.publish_core.specs.declared.seat.Stage.{Stage}
use Rattle.publish_core.specs.declared.seat.Stage.TheVariants.{Held, Marked, Claimed, Cleared, Out}
use Rattle.publish_core.specs.declared.seat.Ends.{Ends}
use Rattle.publish_core.specs.declared.seat.Reading.{Reading}
use Rattle.publish_core.specs.declared.seat.Counts.{Counts}
use Rattle.publish_core.specs.declared.seat.SeatState.{SeatState}
use Rattle.publish_core.specs.declared.state.TheConstants.{SLOTS}
use Rattle.publish_core.specs.Machine.{updated, CoreState, end_of, Acts, one_more, after_load_slot, after_load_ends, after_load_visible, after_load_acked, after_claim_lost}
use Rattle.publish_core.specs.Sound.{Full, bit, InStage, Front, Sound}
use Rattle.publish_core.proofs.Frame.{Evolves, still, batch_stays, owned_stays, seats_all, keeps_all, own_all, turn_all, kind_all, unmade_all}

pub acts_no_note : (d : SeatState) → Acts d → d.kind ≡ Note → ⊥
acts_no_note d acts e =
    ⊎_elim (λ (a : d.kind ≡ Producer). let k : Note ≡ Producer = sym e ∙ a in cc) (λ (a : d.kind ≡ Worker). let k : Note ≡ Worker = sym e ∙ a in cc) acts

module _ {B : Type 0} (count : B → ℕ) (touches : B → ℕ → Bool) where
  pub acts_made : (s : CoreState B) → Sound count touches s → (j : ℕ) → Acts (s.seats j) → j < s.made
  acts_made s sound j acts = dite (dec_le s.made j)
      (λ le. let e = sound.unmade j le in
      absurd (⊎_elim (λ (a : (s.seats j).kind ≡ Producer). let k : Spent ≡ Producer = sym (ap (λ (d : SeatState). d.kind) e) ∙ a in cc)
      (λ (a : (s.seats j).kind ≡ Worker). let k : Spent ≡ Worker = sym (ap (λ (d : SeatState). d.kind) e) ∙ a in cc) acts))
      (λ n. lt_of_not-le n)

  -- what a seat may see anew, and that it is so
  pub record Sees (s : CoreState B) (me : ℕ) : Type 0 where
    pub seen : ℕ
    pub published : ℕ
    pub acked : ℕ
    pub loaded : Option Ends
    pub reading : Option Reading
    pub counts : Counts
    pub grows : ((s.seats me).seen ≤ seen) × (seen ≤ length s.batches)
    pub out : (published ≤ s.published) × (published ≤ seen)
    pub told : acked ≤ s.acked
    pub ends : (e : Ends) → loaded ≡ Some e → (e.head ≤ s.head) × (e.tail ≤ s.tail)
    pub front : (e : Ends) (w : Reading) → loaded ≡ Some e → reading ≡ Some w → e.tail < e.head
        → w.at ≡ e.tail % SLOTS → w.word % 2 ≡ 1 → Front count touches s e w
    pub vacant : (w : Reading) → me ≡ 0 → reading ≡ Some w → w.word ≡ 0 → s.ring w.at ≡ 0

  -- what it sees already
  abbrev pub view : (s : CoreState B) → Sound count touches s → (me : ℕ) → Sees s me
  view s sound me = let d = s.seats me in let ok = sound.each_seat me in record {
    seen = d.seen;
    published = d.published;
    acked = d.acked;
    loaded = d.loaded;
    reading = d.reading;
    counts = d.counts;
    grows = (le_refl d.seen, ok.seen);
    out = ok.published;
    told = ok.acked;
    ends = ok.loaded;
    front = ok.front;
    vacant = ok.vacant;
  }

  -- the seat that sees so
  abbrev pub seeing : (s : CoreState B) (me : ℕ) → Sees s me → SeatState
  seeing s me v = record (s.seats me) {
    seen = v.seen;
    published = v.published;
    acked = v.acked;
    loaded = v.loaded;
    reading = v.reading;
    counts = v.counts;
  }

  pub looked : (s : CoreState B) → Sound count touches s → (me : ℕ) → Acts (s.seats me) → (v : Sees s me)
      → Sound count touches (record s { seats = updated s.seats me (seeing s me v) })
  looked s sound me acts v =
      let d : SeatState = seeing s me v in let s' : CoreState B = record s { seats = updated s.seats me d } in
      let ok = sound.each_seat me in let more : (s.seats me).seen ≤ v.seen = v.grows.0 in
      let ev : Evolves count touches s me me = record (still count touches s me me) { to = s' } in
      record {
        tail_head = sound.tail_head;
        head_length = sound.head_length;
        length_head = sound.length_head;
        room = sound.room;
        published_tail = sound.published_tail;
        acked_head = sound.acked_head;
        counted = sound.counted;
        known = sound.known;
        each_batch = λ i l. let b = sound.each_batch i l in
            batch_stays ev sound (keeps_all d ev sound refl refl refl) i l (λ t. t) refl (λ _. refl) (λ f. (b.word f).1)
            (owned_stays ev sound i refl (own_all d ev sound refl (λ q a. a) i (s.owner i)) (s.stage i) b.owned) b;
        each_slot = sound.each_slot;
        each_turn = λ k j e. let t = sound.each_turn k j e in (t.0, turn_all d ev sound refl refl k j t.1);
        each_seat = seats_all d ev sound refl record {
          held = λ i e. let h = ok.held i e in (h.0, h.1, le_trans h.2 more, h.3);
          admitted = ok.admitted;
          taken = ok.taken;
          emptied = ok.emptied;
          seen = v.grows.1;
          published = v.out;
          acked = v.told;
          loaded = v.ends;
          front = v.front;
          vacant = v.vacant;
          knows = ok.knows;
          turn = ok.turn;
          owns = λ i a. let o = ok.owns i a in (le_trans o.0 more, o.1, o.2);
          distinct = ok.distinct;
          note = ok.note;
        };
        producer = kind_all d ev sound refl refl;
        unmade = unmade_all d ev sound refl (acts_made s sound me acts);
      }

  odd_not_even : (n : ℕ) → (2 * n + 0) % 2 ≡ 1 → ⊥
  odd_not_even n h = omega arith

  -- an odd word in the slot of a batch that stands at the front or behind it
  pub front_of : (s : CoreState B) → Sound count touches s → (t : ℕ) → t < s.head → s.ring (t % SLOTS) % 2 ≡ 1 → s.tail ≤ t
      → (s.stage t ≡ Marked) × (s.ring (t % SLOTS) ≡ 2 * end_of count s t + 1)
  front_of s sound t lt odd le = let hl = sound.head_length in let b = sound.each_batch t (let g : t < length s.batches = omega arith in g) in
      go (s.stage t) refl b.stands b.word
    where
      go : (st : Stage) → s.stage t ≡ st → InStage count touches s t st
          → (Full (s.stage t) → (s.ring (t % SLOTS) ≡ 2 * end_of count s t + bit (s.stage t)) × (length s.batches ≤ t + SLOTS))
          → (s.stage t ≡ Marked) × (s.ring (t % SLOTS) ≡ 2 * end_of count s t + 1)
      go (Held j) is h w = let e = (w (subst Full (sym is) tt)).0 in
          absurd (odd_not_even (end_of count s t) (ap (λ (n : ℕ). n % 2) (sym (e ∙ ap (λ (x : Stage). 2 * end_of count s t + bit x) is)) ∙ odd))
      go Marked is h w = (is, (w (subst Full (sym is) tt)).0 ∙ ap (λ (x : Stage). 2 * end_of count s t + bit x) is)
      go (Claimed j) is h w = let a = h.0 in absurd (omega arith)
      go (Cleared j) is h w = let a = h.0 in absurd (omega arith)
      go Out is h w = let a = h.0 in absurd (omega arith)

  pub kept_load_slot : (s : CoreState B) → Sound count touches s → (me at : ℕ) → Acts (s.seats me) → at < SLOTS
      → Sound count touches (after_load_slot count touches s me at)
  kept_load_slot s sound me at acts small = let d = s.seats me in let ok = sound.each_seat me in
      looked s sound me acts (record (view s sound me) {
        reading = Some record { at = at; word = s.ring at };
        counts = record d.counts { slots = one_more d.counts.slots };
        front = λ x w a b lt is odd.
            let l = ok.loaded x a in let wat : at ≡ w.at = cc in let wd : s.ring at ≡ w.word = cc in
            let word : s.ring (x.tail % SLOTS) ≡ w.word = ap s.ring (sym (wat ∙ is)) ∙ wd in
            let small : x.head ≤ s.head = l.0 in let near : x.tail < s.head = omega arith in
            dite (dec_le s.tail x.tail)
            (λ le. let f = front_of s sound x.tail near (ap (λ (n : ℕ). n % 2) word ∙ odd) le in inr (f.0, sym word ∙ f.1))
            (λ n. inl (lt_of_not-le n));
        vacant = λ w z b zero'.
            let wat : at ≡ w.at = cc in let wd : s.ring at ≡ w.word = cc in ap s.ring (sym wat) ∙ wd ∙ zero';
      })

  pub none_is_some : {A : Type 0} {x : A} {P : Type 0} → ◌≡◌ {A = Option A} None (Some x) → P
  none_is_some e = cc

  ends_now : (s : CoreState B) (x : Ends) → ◌≡◌ {A = Option Ends} (Some record { head = s.head; tail = s.tail }) (Some x)
      → (x.head ≤ s.head) × (x.tail ≤ s.tail)
  ends_now s x a = let h : s.head ≡ x.head = cc in let t : s.tail ≡ x.tail = cc in (omega arith, omega arith)

  -- a view of the ends as they are now
  abbrev at_ends : (s : CoreState B) → Sound count touches s → (me : ℕ) → Counts → Sees s me
  at_ends s sound me counts = record (view s sound me) {
    loaded = Some record { head = s.head; tail = s.tail };
    reading = None;
    counts = counts;
    ends = ends_now s;
    front = λ x w a b lt is odd. none_is_some b;
    vacant = λ w z b zero'. none_is_some b;
  }

  pub kept_load_ends : (s : CoreState B) → Sound count touches s → (me : ℕ) → Acts (s.seats me) → Sound count touches (after_load_ends count touches s me)
  kept_load_ends s sound me acts = let c = (s.seats me).counts in
      looked s sound me acts (at_ends s sound me (record c { ends = one_more c.ends }))

  pub kept_claim_lost : (s : CoreState B) → Sound count touches s → (me : ℕ) → Acts (s.seats me) → Sound count touches (after_claim_lost count touches s me)
  kept_claim_lost s sound me acts = let c = (s.seats me).counts in
      looked s sound me acts (at_ends s sound me (record c { lost = one_more c.lost }))

  pub kept_load_visible : (s : CoreState B) → Sound count touches s → (me : ℕ) → Acts (s.seats me) → Sound count touches (after_load_visible count touches s me)
  kept_load_visible s sound me acts = let d = s.seats me in
      let a = sound.published_tail in let b = sound.tail_head in let c = sound.head_length in
      let seen : d.seen ≤ length s.batches = (sound.each_seat me).seen in
      looked s sound me acts (record (view s sound me) {
        seen = max d.seen s.published;
        published = s.published;
        counts = record d.counts { visibles = one_more d.counts.visibles };
        grows = (omega arith, omega arith);
        out = (le_refl s.published, omega arith);
      })

  pub kept_load_acked : (s : CoreState B) → Sound count touches s → (me : ℕ) → Acts (s.seats me) → Sound count touches (after_load_acked count touches s me)
  kept_load_acked s sound me acts = let c = (s.seats me).counts in
      looked s sound me acts (record (view s sound me) {
        acked = s.acked;
        counts = record c { ackeds = one_more c.ackeds };
        told = le_refl s.acked;
      })
