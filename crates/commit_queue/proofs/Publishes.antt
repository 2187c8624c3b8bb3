-- Marking and publishing keep the rule of the table.
use Rattle.std.specs.Prelude.{Contains}
use Rattle.std.proofs.Common.{◌≡◌, ℕ, suc, ◌+◌, ◌*◌, ◌%◌, ◌<◌, ◌≤◌, max, eqb, IsTrue, lt_of_not-le, List, [], ◌∷◌, length, get_or, set, Some, None, sym, refl, ap, ◌∙◌, subst, ap₂, ⊎_elim, arith}
use mathlib.Core.Logic.{dite}
use mathlib.Core.Option.{none, some}
use native.Mathlib.Decide.{ℕ_discrete, dec_le}
use lib.ListN.{get_elem?}
use prog.Atomic.{either}
use Rattle.atomic_table.specs.Table.{step, keeps, Allows}
use Rattle.atomic_table.proofs.Lists.{exchanged}
use Rattle.wal_base.specs.Prefixes.{IsPrefixOf}
use Rattle.wal_base.proofs.Laws.{prefix_same}
use Rattle.batch_repr.specs.declared.batch.Batch.{Batch}
use Rattle.batch_repr.specs.Batches.{IsContiguous}
use Rattle.memtable_shards.specs.Versions.{touches}
use Rattle.publish_core.specs.declared.seat.Kind.TheVariants.{Producer}
use Rattle.publish_core.specs.declared.seat.Claim.TheVariants.{Free, Taken, Emptied}
use Rattle.publish_core.specs.declared.seat.Stage.TheVariants.{Held, Marked}
use Rattle.publish_core.specs.declared.seat.SeatState.{SeatState}
use Rattle.publish_core.specs.declared.state.TheConstants.{SLOTS}
use Rattle.publish_core.specs.Machine.{updated, ends, visible, Acts, one_more, Among, end_of, after_load_ends, after_load_visible, after_claim_won, after_claim_lost, won, lost}
use Rattle.publish_core.proofs.Laws.{ends_append, ends_mono, ends_less}
use Rattle.publish_core.proofs.Laws.{word_at, at_stage}
use Rattle.publish_core.proofs.Laws.{marked_state, marking}
use Rattle.publish_core.proofs.Laws.{kept_claim_won, emptied_state, emptying, raised_state, raising}
use Rattle.publish_core.proofs.Laws.{kept_load_ends, kept_load_visible, kept_claim_lost}
use Rattle.publish_core.proofs.Laws.{has_all}
use Rattle.commit_queue.specs.declared.pipe_table.TableOpening.{TableOpening}
use Rattle.commit_queue.specs.declared.view.View.{View}
use Rattle.commit_queue.specs.declared.layout.TheConstants.{ENDS, VISIBLE, RING_FROM, HALF}
use Rattle.commit_queue.specs.Rule.{RingState, TableState, numbers, Linked}
use Rattle.commit_queue.specs.Views.{marked_view, ends_view, lost_view, won_view, emptied_view, raised_view, visible_view, settled_view}
use Rattle.commit_queue.specs.Tells.{Seated, high, low, TellsMarked, TellsEnds, TellsClaim, TellsEmptied, TellsRaised, TellsVisible, TellsSettled, TopsAt}
use Rattle.commit_queue.specs.Calls.{IsAppliedAll}
use Rattle.commit_queue.proofs.Becomes.{acts_live, Becomes, still, linked, has_seen, Goes, stays, prefix_at}
use Rattle.commit_queue.proofs.Words.{shows_seats, shows_ends, shows_visible, shows_ring}
use Rattle.commit_queue.proofs.Versioned.{in_row}
use Rattle.commit_queue.proofs.Shown.{among, contained}

pub at_end_of : (xs ys : List Batch) → IsPrefixOf xs ys → (v n : ℕ) → n ≤ length xs → ends numbers v xs n ≡ ends numbers v ys n
at_end_of xs ys pre v n l = sym (ends_append numbers v xs pre.0 n l) ∙ ap (λ (h : List Batch). ends numbers v h n) (sym pre.1)

-- a word of two halves, each below 2^32, has these halves
pub halves : (r h t : ℕ) → r ≡ h * HALF + t → t < HALF → (h ≡ high r) × (t ≡ low r)
halves r h t e l = (omega arith, omega arith)

module _ (o : TableOpening) where
  -- the seat acts, so its view has the table's first number
  base_of : (s : TableState) (r : Linked o s) (id : ℕ) (v : View) → get_elem? s.views id ≡ some v → Acts v.seat → v.base ≡ r.core.base
  base_of s r id v has acts = ((r.each_view id v has).base (acts_live v.seat acts)).0

  pub marks : (n id : ℕ) (me : Seated) (at new i : ℕ) → at ≡ i % SLOTS → Acts me.0.seat → me.0.seat.held ≡ Some i
      → (me.0.seat.kind ≡ Producer → i < me.0.head)
      → me.0.absorbed ≡ [] → IsAppliedAll me.0 i → new ≡ 2 * ends numbers me.0.base me.0.history (suc i) + 1
      → Allows (Linked o) n id me (at + RING_FROM) (λ _. new) (λ _. TellsMarked (step n (at + RING_FROM) new 0 none) me new)
  marks n id me at new i at_is acts holds admitted calm applied new_is s r wide has _ =
      let c : RingState = r.core in let v : View = me.0 in let ok = r.each_view id v has in let w : View = marked_view v i in
      let sound = r.sound in let seat : c.seats id ≡ v.seat = ok.seat in
      let holds' : (c.seats id).held ≡ Some i = ap (λ (d : SeatState). d.held) seat ∙ holds in
      let acts' : Acts (c.seats id) = subst Acts (sym seat) acts in
      let h = (sound.each_seat id).held i holds' in let sn : v.seat.seen ≤ length v.history = ok.seen calm in
      let g : i < (c.seats id).seen = h.2 in let g' : i < v.seat.seen = subst (λ (d : SeatState). i < d.seen) seat g in
      let near : i < length v.history = omega arith in
      let below : i < c.head = dite (ℕ_discrete id 0)
      (λ z. let a : i < v.head = admitted (sym (ap (λ (d : SeatState). d.kind) seat) ∙ ap (λ (j : ℕ). (c.seats j).kind) z ∙ sound.producer)
      in let b : v.head ≡ c.head = ok.head z in omega arith) (λ nz. (sound.each_seat id).admitted i nz holds') in
      let knows : (b : Batch) (k : ℕ) → get_elem? c.batches i ≡ some b → IsTrue (touches b k) → Among (record { batch = i; shard = k })
      (c.seats id).knows =
      λ b k e t. subst (λ (d : SeatState). Among (record { batch = i; shard = k }) d.knows) (sym seat)
      ((ok.pieces i k holds).1 (among k v.pieces (applied b k (prefix_at v.history c.batches ok.known i near b e) t))) in
      let word = (word_at numbers touches c sound i (Held id) h.0 h.1 tt).0 in let r0 : ℕ = c.ring (i % SLOTS) in
      let end_is : ends numbers v.base v.history (suc i) ≡ end_of numbers c i = at_end_of v.history c.batches ok.known v.base (suc i) near
      ∙ ap (λ (y : ℕ). ends numbers y c.batches (suc i)) (base_of s r id v has acts) in
      let is : r0 + 1 ≡ new = omega arith in (
        w,
        keeps,
        tt,
        linked o s r id (record (still o s r id v has) {
          words = set s.words (at + RING_FROM) new;
          view = w;
          core = marked_state numbers touches c id i;
          sound = marking numbers touches c sound id i acts' holds' below knows;
          seats = ap (λ (d : SeatState). updated c.seats id (record d { held = None; own = i ∷ d.own })) seat;
          shows = shows_ring c (marked_state numbers touches c id i) s.words at new (omega arith) r.shows refl refl refl refl refl
              (ap₂ (updated c.ring) (sym at_is) is);
          pieces = λ j k e. let z : None ≡ Some j = e in cc;
          idle = λ _. refl;
        }),
        (refl, λ j q. let same : i ≡ j = cc in ap (marked_view v) same),
      )

  -- a seat that has loaded the ends
  abbrev ends_loaded : (s : TableState) (r : Linked o s) (id : ℕ) (v : View) → get_elem? s.views id ≡ some v → Acts v.seat → (h t : ℕ)
      → (r.core.head ≡ h) × (r.core.tail ≡ t) → Becomes o s r id
  ends_loaded s r id v has acts h t are = record (still o s r id v has) {
    view = ends_view v h t;
    core = after_load_ends numbers touches r.core id;
    sound = kept_load_ends numbers touches r.core r.sound id (subst Acts (sym (r.each_view id v has).seat) acts);
    seats = λ k. updated r.core.seats id (let d : SeatState = (r.each_view id v has).seat k in
        record d {
          loaded = Some record { head = are.0 k; tail = are.1 k };
          reading = None;
          counts = record d.counts { ends = one_more d.counts.ends };
        });
    shows = shows_seats r.core _ s.words r.shows;
  }

  pub sees_ends : (n id : ℕ) (me : Seated) → Acts me.0.seat → Allows (Linked o) n id me ENDS (λ x. x) (TellsEnds (step n ENDS 0 0 none) me)
  sees_ends n id me acts s r wide has _ =
      let c : RingState = r.core in let v : View = me.0 in let x : ℕ = get_or s.words ENDS 0 in
      let few = r.few in let th = r.sound.tail_head in let hl = r.sound.head_length in
      let hv = halves x c.head c.tail r.shows.ends_word (omega arith) in
      stays o s ENDS id me (TellsEnds (step n ENDS 0 0 none) me) (ends_view v (high x) (low x))
      (linked o s r id (ends_loaded s r id v has acts (high x) (low x) hv)) (refl, refl, omega arith)

  pub settles : (n id : ℕ) (me : Seated) → Acts me.0.seat → Allows (Linked o) n id me ENDS (λ x. x) (TellsSettled (step n ENDS 0 0 none) me)
  settles n id me acts s r wide has _ =
      let c : RingState = r.core in let v : View = me.0 in let ok = r.each_view id v has in let x : ℕ = get_or s.words ENDS 0 in
      let few = r.few in let th = r.sound.tail_head in let hl = r.sound.head_length in let pt = r.sound.published_tail in
      let hv = halves x c.head c.tail r.shows.ends_word (omega arith) in
      let w : View = settled_view (ends_view v (high x) (low x)) c.batches in let seat : c.seats id ≡ v.seat = ok.seat in
      let sn = (has_seen o s r id v has).0 in
      let pb = (has_seen o s r id v has).1 in
      stays o s ENDS id me (TellsSettled (step n ENDS 0 0 none) me) w
      (linked o s r id (record (ends_loaded s r id v has acts (high x) (low x) hv) {
        view = w;
        known = prefix_same c.batches;
        absorbed = (c.batches, refl);
        seen = λ _. sn;
        whole = λ z. refl;
      })) (
        refl,
        (
          c.batches,
          refl,
          record {
            goes_on = ok.known;
            has_absorbed = ok.absorbed;
            same_base = let e = ok.base (acts_live v.seat acts) in e.1 ∙ sym e.0;
            within = sn;
            published_within = omega arith;
            behind = λ i e. let h = (r.sound.each_seat id).held i (ap (λ (d : SeatState). d.held) seat ∙ e) in
                let b : c.tail ≤ i = (at_stage numbers touches c r.sound i (Held id) h.0 h.1).0 in omega arith;
            retired = ok.acked_known.retired;
            whole = λ k. sym (ok.whole (ok.producer k));
            all = subst
                (λ (d : SeatState). length c.batches ≤ length d.own → (i : ℕ) → i < length c.batches → Contains d.own i)
                seat (λ enough i l. contained i (c.seats id).own (has_all numbers touches c r.sound id enough i l));
          },
        ),
      )

  pub claims : (n id : ℕ) (me : Seated) (old new h t w : ℕ)
      → old ≡ h * HALF + t → new ≡ old + 1 → t < HALF → h < HALF → Acts me.0.seat → me.0.seat.claim ≡ Free
      → me.0.seat.loaded ≡ Some record { head = h; tail = t } → t < h
      → me.0.seat.reading ≡ Some record {
        at = t % SLOTS;
        word = w;
      } → w % 2 ≡ 1 → Allows (Linked o) n id me ENDS (λ x. either (eqb x old) new x) (TellsClaim (step n ENDS old new none) me)
  claims n id me old new h t w old_is new_is tl hl acts free loaded lt read odd s r wide has _ =
      let c : RingState = r.core in let v : View = me.0 in let ok = r.each_view id v has in let x : ℕ = get_or s.words ENDS 0 in
      let sound = r.sound in let few = r.few in let th = sound.tail_head in let hh = sound.head_length in
      let seat : c.seats id ≡ v.seat = ok.seat in
      let shows : x ≡ c.head * HALF + c.tail = r.shows.ends_word in let acts' : Acts (c.seats id) = subst Acts (sym seat) acts in
      let then = TellsClaim (step n ENDS old new none) me in let hx = halves x c.head c.tail shows (omega arith) in
      exchanged x old new (Goes o s ENDS id me then)
      (λ hit. let hd : c.head ≡ h = omega arith in let tt' : c.tail ≡ t = omega arith in
      let free' : (c.seats id).claim ≡ Free = ap (λ (d : SeatState). d.claim) seat ∙ free in
      let front = (sound.each_seat id).front record { head = h; tail = t } record {
        at = t % SLOTS;
        word = w;
      } (ap (λ (d : SeatState). d.loaded) seat ∙ loaded) (ap (λ (d : SeatState). d.reading) seat ∙ read) lt refl odd in
      let marked' : (c.stage c.tail ≡ Marked) × (w ≡ 2 * end_of numbers c c.tail + 1) = ⊎_elim (λ (a : t < c.tail). absurd (omega arith))
      (λ (a : (c.stage t ≡ Marked) × (w ≡ 2 * end_of numbers c t + 1)). subst
      (λ (y : ℕ). (c.stage y ≡ Marked) × (w ≡ 2 * end_of numbers c y + 1)) (sym tt') a) front in
      let w' : View = won_view v (low x) c.batches in let low_is : c.tail ≡ low x = hx.1 in
      let near : c.tail < length c.batches = omega arith in
      let sn = (has_seen o s r id v has).0 in (
        w',
        keeps,
        tt,
        linked o s r id (record (still o s r id v has) {
          words = set s.words ENDS new;
          view = w';
          core = after_claim_won numbers touches c id;
          sound = kept_claim_won numbers touches c sound id acts' free' (omega arith) marked'.0;
          seats = ap₂ (λ (d : SeatState) (y : ℕ). updated c.seats id (won numbers touches d y)) seat low_is;
          shows = shows_ends c (after_claim_won numbers touches c id) s.words new r.shows (omega arith) refl refl refl refl;
          known = prefix_same c.batches;
          seen = λ _. let q : low x ≡ c.tail = sym low_is in omega arith;
          whole = λ z. refl;
        }),
        (
          refl,
          (λ _. (
            c.batches,
            refl,
            (ok.known, (let q : low x ≡ c.tail = sym low_is in omega arith), λ k. sym (ok.whole (ok.producer k))),
            λ y z. let same : w ≡ y.word = cc in sym same ∙ marked'.1
                ∙ (λ k. 2 * ends numbers (sym (base_of s r id v has acts) k) c.batches (suc (low_is k)) + 1),
          )),
          λ miss. absurd (miss hit),
        ),
      ))
      (λ miss. let w' : View = lost_view v (high x) (low x) in
      stays o s ENDS id me then w'
      (linked o s r id (record (still o s r id v has) {
        view = w';
        core = after_claim_lost numbers touches c id;
        sound = kept_claim_lost numbers touches c sound id acts';
        seats = λ k. updated c.seats id (lost numbers touches (seat k) (hx.0 k) (hx.1 k));
        shows = shows_seats c _ s.words r.shows;
      }))
      (refl, (λ hit. absurd (miss hit)), λ _. refl))

  pub empties : (n id : ℕ) (me : Seated) (at t : ℕ) → at ≡ t % SLOTS → Acts me.0.seat → me.0.seat.claim ≡ Taken t
      → Allows (Linked o) n id me (at + RING_FROM) (λ _. 0) (λ _. TellsEmptied (step n (at + RING_FROM) 0 0 none) me 0)
  empties n id me at t at_is acts claim s r wide has _ =
      let c : RingState = r.core in let v : View = me.0 in let ok = r.each_view id v has in let w : View = emptied_view v t in
      let seat : c.seats id ≡ v.seat = ok.seat in (
        w,
        keeps,
        tt,
        linked o s r id (record (still o s r id v has) {
          words = set s.words (at + RING_FROM) 0;
          view = w;
          core = emptied_state numbers touches c id t;
          sound = emptying numbers touches c r.sound id t (subst Acts (sym seat) acts) (ap (λ (d : SeatState). d.claim) seat ∙ claim);
          seats = ap (λ (d : SeatState). updated c.seats id (record d { claim = Emptied t })) seat;
          shows = shows_ring c (emptied_state numbers touches c id t) s.words at 0 (omega arith) r.shows refl refl refl refl refl
              (ap (λ (y : ℕ). updated c.ring y 0) (sym at_is));
        }),
        (refl, λ j q. let same : t ≡ j = cc in ap (emptied_view v) same),
      )

  -- the greater of two ends is the end of the greater number
  max_ends : (v : ℕ) (xs : List Batch) (m n : ℕ) → max (ends numbers v xs m) (ends numbers v xs n) ≡ ends numbers v xs (max m n)
  max_ends v xs m n = dite (dec_le m n)
      (λ le. let a = ends_mono numbers v xs m n le in let b : max m n ≡ n = omega arith in
      (let g : max (ends numbers v xs m) (ends numbers v xs n) ≡ ends numbers v xs n = omega arith in g) ∙ ap (ends numbers v xs) (sym b))
      (λ no. let lt = lt_of_not-le no in let a = ends_mono numbers v xs n m (omega arith) in let b : max m n ≡ m = omega arith in
      (let g : max (ends numbers v xs m) (ends numbers v xs n) ≡ ends numbers v xs m = omega arith in g) ∙ ap (ends numbers v xs) (sym b))

  pub raises : (n id : ℕ) (me : Seated) (e t : ℕ) → e ≡ ends numbers me.0.base me.0.history (suc t) → suc t ≤ length me.0.history
      → Acts me.0.seat → me.0.seat.claim ≡ Emptied t → Allows (Linked o) n id me VISIBLE (λ x. max x e) (TellsRaised (step n VISIBLE e 0 none) me)
  raises n id me e t e_is near acts claim s r wide has _ =
      let c : RingState = r.core in let v : View = me.0 in let ok = r.each_view id v has in let sound = r.sound in
      let p : ℕ = max c.published (suc t) in let w : View = raised_view v p c.batches in let seat : c.seats id ≡ v.seat = ok.seat in
      let x : ℕ = get_or s.words VISIBLE 0 in let c' : RingState = raised_state numbers touches c id t in
      let sound' = raising numbers touches c sound id t (subst Acts (sym seat) acts) (ap (λ (d : SeatState). d.claim) seat ∙ claim) in
      let end_is : e ≡ ends numbers c.base c.batches (suc t) = e_is ∙ at_end_of v.history c.batches ok.known v.base (suc t) near
      ∙ ap (λ (y : ℕ). ends numbers y c.batches (suc t)) (base_of s r id v has acts) in
      let is : max x e ≡ visible numbers c' = ap₂ max r.shows.visible_word end_is ∙ max_ends c.base c.batches c.published (suc t) in
      let pl : p ≤ c.tail = sound'.published_tail in let th = sound.tail_head in let hl = sound.head_length in
      let sn = (has_seen o s r id v has).0 in
      let before = (has_seen o s r id v has).1 in (
        w,
        keeps,
        tt,
        linked o s r id (record (still o s r id v has) {
          words = set s.words VISIBLE (max x e);
          view = w;
          core = c';
          sound = sound';
          seats = ap (λ (d : SeatState). updated c.seats id (record d { claim = Free; published = p; seen = max d.seen p })) seat;
          shows = shows_visible c c' s.words (max x e) r.shows is refl refl refl refl refl;
          known = prefix_same c.batches;
          seen = λ _. omega arith;
          whole = λ z. refl;
        }),
        (
          refl,
          (
            p,
            c.batches,
            refl,
            (ok.known, omega arith, λ k. sym (ok.whole (ok.producer k))),
            omega arith,
            λ j q. let same : t ≡ j = cc in omega arith,
          ),
        ),
      )

  pub sees_visible : (n id : ℕ) (me : Seated) → Acts me.0.seat → Allows (Linked o) n id me VISIBLE (λ x. x) (TellsVisible (step n VISIBLE 0 0 none) me)
  sees_visible n id me acts s r wide has _ =
      let c : RingState = r.core in let v : View = me.0 in let ok = r.each_view id v has in let sound = r.sound in
      let w : View = visible_view v c.published c.batches in let seat : c.seats id ≡ v.seat = ok.seat in
      let a = sound.published_tail in let b = sound.tail_head in let d = sound.head_length in
      let vb : v.base ≡ c.base = base_of s r id v has acts in
      let word : get_or s.words VISIBLE 0 ≡ ends numbers c.base c.batches c.published = r.shows.visible_word in
      let reaches : (k : ℕ) → k ≤ length c.batches → ends numbers v.base c.batches k ≤ get_or s.words VISIBLE 0 → k ≤ c.published = λ k l e. dite
      (dec_le k c.published) (λ le. le) (λ no. let lt = lt_of_not-le no in
      let less = ends_less numbers c.base c.batches sound.counted c.published k lt l in
      let e' : ends numbers c.base c.batches k ≤ get_or s.words VISIBLE 0 = subst (λ (y : ℕ). ends numbers y c.batches k ≤ get_or s.words VISIBLE 0)
      vb e in absurd (omega arith)) in
      let tops : TopsAt v.base c.batches c.published (get_or s.words VISIBLE 0) = λ k l e. dite
      (dec_le c.published k) (λ le. le) (λ no. let lt = lt_of_not-le no in
      let less = ends_less numbers c.base c.batches sound.counted k c.published lt (omega arith) in
      let e' : get_or s.words VISIBLE 0 ≤ ends numbers c.base c.batches k = subst (λ (y : ℕ). get_or s.words VISIBLE 0 ≤ ends numbers y c.batches k)
      vb e in absurd (omega arith)) in
      let sn = (has_seen o s r id v has).0 in
      stays o s VISIBLE id me (TellsVisible (step n VISIBLE 0 0 none) me) w
      (linked o s r id (record (still o s r id v has) {
        view = w;
        core = after_load_visible numbers touches c id;
        sound = kept_load_visible numbers touches c sound id (subst Acts (sym seat) acts);
        seats = ap (λ (d : SeatState). updated c.seats id
            (record d {
              published = c.published;
              seen = max d.seen c.published;
              counts = record d.counts { visibles = one_more d.counts.visibles };
            })) seat;
        shows = shows_seats c _ s.words r.shows;
        known = prefix_same c.batches;
        seen = λ _. omega arith;
        whole = λ z. refl;
      })) (
        refl,
        record {
          count = c.published;
          history = c.batches;
          view = refl;
          grew = (ok.known, omega arith, λ k. sym (ok.whole (ok.producer k)));
          published = (has_seen o s r id v has).1;
          end_is = r.shows.visible_word ∙ ap (λ (y : ℕ). ends numbers y c.batches c.published) (sym (base_of s r id v has acts));
          reaches = reaches;
          tops = tops;
          few = r.few;
          row = subst (λ (y : ℕ). IsContiguous y c.batches) (sym vb) (in_row c.base c.batches r.first sound.counted);
        },
      )
