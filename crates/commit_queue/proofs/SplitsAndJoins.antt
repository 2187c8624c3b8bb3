-- Cutting a seat in two and joining two seats keep the rule of the table.
use Rattle.std.proofs.Common.{Bool, List, None, Option, Some, [], ap, ap₂, append-nil, arith, cond, false, inl, inr, length, length-append, length-set, max, refl, set, subst, suc, sym, true, zero, ℕ, ⊎_elim, ◌++◌, ◌+◌, ◌<◌, ◌∙◌, ◌∷◌, ◌≡◌, ◌≢◌, ◌≤◌, ◌⊎◌}
use mathlib.Core.Option.{some, some-injective}
use lib.ListN.{get_elem?}
use Rattle.atomic_table.specs.Table.{Splits, Joins}
use Rattle.atomic_table.proofs.Lists.{at_set, set_else}
use Rattle.batch_repr.specs.declared.batch.Batch.{Batch}
use Rattle.batch_repr.specs.declared.limits.TheConstants.{BATCHES_MAX}
use Rattle.memtable_shards.specs.Versions.{Version}
use Rattle.memtable_shards.specs.Versions.{touches}
use Rattle.publish_core.specs.declared.seat.Kind.{Kind}
use Rattle.publish_core.specs.declared.seat.Kind.TheVariants.{Producer, Note, Worker, Spent}
use Rattle.publish_core.specs.declared.seat.Claim.TheVariants.{Free}
use Rattle.publish_core.specs.declared.seat.Pair.{Pair}
use Rattle.publish_core.specs.declared.seat.SeatState.{SeatState}
use Rattle.publish_core.specs.declared.state.TheConstants.{END_LIMIT}
use Rattle.publish_core.specs.Machine.{Among, updated, ends, both_held, shown_seat, joined, nobody, after_tell, after_hand, after_join}
use Rattle.publish_core.proofs.Laws.{put_here, put_else, at_below}
use Rattle.publish_core.proofs.Laws.{kept_tell, kept_hand}
use Rattle.publish_core.proofs.Laws.{CanJoin, kept_join}
use Rattle.publish_core.proofs.Laws.{can_join}
use Rattle.commit_queue.specs.declared.pipe_table.TableOpening.{TableOpening}
use Rattle.commit_queue.specs.declared.view.AckedKnown.{AckedKnown}
use Rattle.commit_queue.specs.declared.view.View.{View}
use Rattle.commit_queue.specs.Shards.{HasVersions}
use Rattle.commit_queue.specs.Rule.{RingState, TableState, numbers, IsSoundRing, Shows, PiecesOk, ViewOk, AckedKnownOk, Linked}
use Rattle.commit_queue.specs.Views.{no_acked, without_batch, handed_view, shown_view, telling_view, flush_view, later, joined_view, spent_view}
use Rattle.commit_queue.proofs.Becomes.{has_seen, same_pieces, same_seen}
use Rattle.commit_queue.proofs.Words.{shows_same}

-- the last of a list is known by its place
snoc_at : {A : Type 0} (l : List A) (a b : A) (j : ℕ) → get_elem? (l ++ a ∷ []) j ≡ some b
    → ((get_elem? l j ≡ some b) × (j < length l)) ⊎ ((j ≡ length l) × (a ≡ b))
snoc_at [] a b zero e = inr (refl, some-injective a b e)
snoc_at [] a b (suc j) e = let l = at_below [] j b e in absurd (omega arith)
snoc_at (x ∷ xs) a b zero e = inl (e, omega arith)
snoc_at (x ∷ xs) a b (suc j) e = ⊎_elim (λ (t : (get_elem? xs j ≡ some b) × (j < length xs)). let l = t.1 in inl (t.0, omega arith))
    (λ (t : (j ≡ length xs) × (a ≡ b)). let l = t.0 in inr (omega arith, t.1)) (snoc_at xs a b j e)

-- a shard's versions are the same in a state with the same batches, where the same are applied
same_versions : (opening : List (List Version)) (c c' : RingState) → c'.batches ≡ c.batches → c'.done ≡ c.done → (k : ℕ) (x : List Version)
    → HasVersions opening c.batches (c.done k) k x → HasVersions opening c'.batches (c'.done k) k x
same_versions opening c c' l d k x h = subst (λ (y : List Batch × (ℕ → List ℕ)). HasVersions opening y.0 (y.1 k) k x)
    (λ i. (sym l i, sym d i)) h

-- the same words and batches, other seats
pub reseated : (o : TableOpening) (s : TableState) (r : Linked o s) (c' : RingState) (vs : List View) → IsSoundRing c'
    → c'.base ≡ r.core.base → c'.batches ≡ r.core.batches → Shows c' s.words → c'.done ≡ r.core.done → c'.turn ≡ r.core.turn
    → length vs ≡ c'.made → ((j : ℕ) (v : View) → get_elem? vs j ≡ some v → ViewOk o.shards.value c' j v)
    → Linked o record { words = s.words; homes = s.homes; views = vs }
reseated o s r c' vs sound b l shows dones turns made views = record {
  core = c';
  sound = sound;
  base_is = b ∙ r.base_is;
  below = r.below;
  few = subst (λ (x : List Batch). length x ≤ BATCHES_MAX) (sym l) r.few;
  small = subst (λ (x : ℕ × List Batch). (i : ℕ) → i < length x.1 → ends numbers x.0 x.1 (suc i) < END_LIMIT) (λ k. (sym b k, sym l k))
      r.small;
  first = subst (λ (x : ℕ × List Batch). (i : ℕ) (y : Batch) → get_elem? x.1 i ≡ some y → y.first ≡ ends numbers x.0 x.1 i)
      (λ k. (sym b k, sym l k)) r.first;
  shows = shows;
  made = made;
  each_view = views;
  homes = λ k t z. let h = r.homes k t (ap (λ (f : ℕ → ℕ). f k) (sym turns) ∙ z) in
      (h.0, h.1, same_versions o.shards.value r.core c' l dones k h.0 h.2);
}

-- a view that a step does not touch, of a state with the same batches
same_view : (opening : List (List Version)) (c c' : RingState) (j : ℕ) (v : View) → c'.seats j ≡ c.seats j → c'.base ≡ c.base
    → c'.batches ≡ c.batches → c'.head ≡ c.head → c'.done ≡ c.done → AckedKnownOk c'.acked c'.made j v.seat.acked v.acked_known
    → ViewOk opening c j v → ViewOk opening c' j v
same_view opening c c' j v seat b l h dn dk ok = same_seen opening c c' j v v ok refl (b, l, h) (seat ∙ ok.seat)
    (λ k e. same_versions opening c c' l dn k v.taken (ok.turn k e)) (same_pieces c c' v dn ok.pieces) ok.idle dk

-- what stands in either of two lists stands in both together
among_left : {A : Type 0} (x : A) (xs ys : List A) → Among x xs → Among x (xs ++ ys)
among_left x [] ys h = absurd h
among_left x (y ∷ xs) ys h = ⊎_elim (λ e. inl e) (λ m. inr (among_left x xs ys m)) h

among_right : {A : Type 0} (x : A) (xs ys : List A) → Among x ys → Among x (xs ++ ys)
among_right x [] ys h = h
among_right x (y ∷ xs) ys h = inr (among_right x xs ys h)

-- the batch that either of two seats holds is applied in the same shards once one has taken in the other
joined_pieces : (c : RingState) (v w : View) → (v.seat.held ≡ None) ⊎ (w.seat.held ≡ None)
    → (v.seat.held ≡ None → v.pieces ≡ []) → (w.seat.held ≡ None → w.pieces ≡ []) → PiecesOk c v → PiecesOk c w → PiecesOk c (joined_view v w)
joined_pieces c v w one idle idle' ok ok' i k e = go v.seat.held refl e
  where
    pair : Pair
    pair = record { batch = i; shard = k }

    go : (h : Option ℕ) → v.seat.held ≡ h → both_held h w.seat.held ≡ Some i
        → (Among i (c.done k) → Among k (v.pieces ++ w.pieces)) × (Among k (v.pieces ++ w.pieces) → Among pair (v.seat.knows ++ w.seat.knows))
    go None is e = let p = ok' i k e in let none : v.pieces ≡ [] = idle is in (
      (λ a. among_right k v.pieces w.pieces (p.0 a)),
      λ a. among_right pair v.seat.knows w.seat.knows (p.1 (subst (λ (l : List ℕ). Among k (l ++ w.pieces)) none a)),
    )
    go (Some j) is e = let p = ok i k (is ∙ e) in
        let none : w.pieces ≡ [] = idle' (⊎_elim (λ a. let q : Some j ≡ None = sym is ∙ a in cc) (λ b. b) one) in (
          (λ a. among_left k v.pieces w.pieces (p.0 a)),
          λ a. among_left pair v.seat.knows w.seat.knows
              (p.1 (subst (Among k) (ap (λ (l : List ℕ). v.pieces ++ l) none ∙ append-nil v.pieces) a)),
        )

-- and where neither holds a batch, there are no such shards
joined_idle : (v w : View) → (v.seat.held ≡ None → v.pieces ≡ []) → (w.seat.held ≡ None → w.pieces ≡ [])
    → both_held v.seat.held w.seat.held ≡ None → v.pieces ++ w.pieces ≡ []
joined_idle v w idle idle' e = go v.seat.held refl e
  where
    go : (h : Option ℕ) → v.seat.held ≡ h → both_held h w.seat.held ≡ None → v.pieces ++ w.pieces ≡ []
    go None is e = ap₂ (λ (l m : List ℕ). l ++ m) (idle is) (idle' e)
    go (Some j) is e = let q : Some j ≡ None = e in cc

module _ (o : TableOpening) where
  -- a new seat, which leaves no other the first
  made_acked : (a m j s : ℕ) (k : AckedKnown) → (k.alone ≡ true → ⊥) → AckedKnownOk a m j s k → AckedKnownOk a (m + 1) j s k
  made_acked a m j s k not h = record { raised = h.raised; retired = h.retired; alone = λ e. absurd (not e) }

  later_acked : (a m j s : ℕ) (k : AckedKnown) → AckedKnownOk a m j s k → AckedKnownOk a (m + 1) j s (later k)
  later_acked a m j s k h = record { raised = h.raised; retired = h.retired; alone = λ (e : false ≡ true). cc }

  plain_acked : (a m j s : ℕ) → AckedKnownOk a m j s no_acked
  plain_acked a m j s = record {
    raised = λ (e : false ≡ true). cc;
    retired = λ n e. let c : None ≡ Some n = e in cc;
    alone = λ (e : false ≡ true). cc;
  }

  -- while one seat is the first, no other is there
  alone : (s : TableState) (r : Linked o s) (i j : ℕ) (v w : View) → get_elem? s.views i ≡ some v → get_elem? s.views j ≡ some w → i ≢ j
      → w.acked_known.alone ≡ true → ⊥
  alone s r i j v w a b ne e = let m = ((r.each_view j w b).acked_known.alone e).0 in let l = at_below s.views i v a in
      let l' = at_below s.views j w b in let n = r.made in ne (omega arith)

  splits_off : (k : Kind) (id : ℕ) (v : View) (d : AckedKnown) → k ≢ Producer → v.seat.kind ≢ Spent
      → ((a m : ℕ) → AckedKnownOk a m id v.seat.acked v.acked_known → AckedKnownOk a (m + 1) m v.seat.acked d)
      → Splits (Linked o) id v (telling_view v) (record v { seat = shown_seat v.seat k None; acked_known = d; pieces = [] })
  splits_off k id v d no_producer live fresh s r has =
      let c : RingState = r.core in let ok = r.each_view id v has in let left : View = telling_view v in
      let right : View = record v { seat = shown_seat v.seat k None; acked_known = d; pieces = [] } in let vs : List View = set s.views id left in
      let n : length vs ≡ length s.views = length-set s.views id left in
      let c' : RingState = after_tell numbers touches c id k in let new : SeatState = shown_seat (c.seats id) k None in
      let not_zero : c.made ≢ 0 = λ e. let q = r.sound.unmade 0 (omega arith) in
      let z : Spent ≡ Producer = ap (λ (x : SeatState). x.kind) (sym q) ∙ r.sound.producer in cc in
      reseated o s r c' (vs ++ right ∷ []) (kept_tell numbers touches c r.sound id k) refl refl
      (shows_same c c' s.words r.shows refl refl refl refl refl refl) refl refl
      (length-append vs (right ∷ []) ∙ ap (λ (x : ℕ). x + 1) (n ∙ r.made))
      (λ j w at. ⊎_elim
      (λ (t : (get_elem? vs j ≡ some w) × (j < length vs)). let l = t.1 in let m = r.made in
      let away : j ≢ c.made = λ e. omega arith in ⊎_elim
      (λ (u : (j ≡ id) × (left ≡ w)). subst (λ (x : ℕ × View). ViewOk o.shards.value c' x.0 x.1) (λ i. (sym u.0 i, u.1 i))
      (same_seen o.shards.value c c' id v left ok refl (refl, refl, refl) (put_else c.seats c.made new id (λ e. away (u.0 ∙ e)) ∙ ok.seat)
      ok.turn ok.pieces ok.idle (later_acked c.acked c.made id v.seat.acked v.acked_known ok.acked_known)))
      (λ (u : (j ≢ id) × (get_elem? s.views j ≡ some w)). let wo = r.each_view j w u.1 in same_view o.shards.value c c' j w
      (put_else c.seats c.made new j away) refl refl refl refl
      (made_acked c.acked c.made j w.seat.acked w.acked_known (alone s r id j v w has u.1 (λ e. u.0 (sym e))) wo.acked_known) wo)
      (at_set s.views id j left w t.0))
      (λ (t : (j ≡ length vs) × (right ≡ w)). let m : j ≡ c.made = t.0 ∙ n ∙ r.made in subst (ViewOk o.shards.value c' j) t.1 record {
        seat = ap (updated c.seats c.made new) m ∙ put_here c.seats c.made new ∙ ap (λ (x : SeatState). shown_seat x k None) ok.seat;
        base = λ _. ok.base live;
        known = ok.known;
        absorbed = ok.absorbed;
        seen = ok.seen;
        producer = λ e. absurd (no_producer e);
        whole = λ z. absurd (not_zero (sym m ∙ z));
        head = λ z. absurd (not_zero (sym m ∙ z));
        turn = λ q e. let z : None ≡ Some q = e in cc;
        pieces = λ i q e. let z : None ≡ Some i = e in cc;
        idle = λ _. refl;
        acked_known = subst (λ (x : ℕ). AckedKnownOk c.acked (c.made + 1) x v.seat.acked d) (sym m) (fresh c.acked c.made ok.acked_known);
      })
      (snoc_at vs right w j at))

  pub tells : (k : Kind) (id : ℕ) (v : View) → k ≢ Producer → v.seat.kind ≢ Spent → Splits (Linked o) id v (telling_view v) (shown_view k v)
  tells k id v no_producer live = splits_off k id v no_acked no_producer live (λ a m h. plain_acked a (m + 1) m v.seat.acked)

  -- the flush seat is the second
  pub seats_flush : (id : ℕ) (v : View) → v.seat.kind ≢ Spent → v.acked_known.alone ≡ true
      → Splits (Linked o) id v (telling_view v) (flush_view v)
  seats_flush id v live first = splits_off Worker id v (record no_acked { is_flush = true }) (λ (e : Worker ≡ Producer). cc) live
      (λ a m h. let f = h.alone first in
      record { raised = λ _. (f.0, sym f.1); retired = λ n e. let c : None ≡ Some n = e in cc; alone = λ (e : false ≡ true). cc })

  pub hands : (id : ℕ) (v : View) (i : ℕ) → id ≡ 0 → v.seat.held ≡ Some i → i < v.head
      → Splits (Linked o) id v (without_batch v) (handed_view v)
  hands id v i z holds below s r has =
      let c : RingState = r.core in let ok = subst (λ (j : ℕ). ViewOk o.shards.value c j v) z (r.each_view id v has) in
      let vs : List View = set s.views id (without_batch v) in
      let n : length vs ≡ length s.views = length-set s.views id (without_batch v) in
      let seat : c.seats 0 ≡ v.seat = ok.seat in let holds' : (c.seats 0).held ≡ Some i = ap (λ (d : SeatState). d.held) seat ∙ holds in
      let hd : v.head ≡ c.head = ok.head refl in
      let c' : RingState = after_hand numbers touches c i in let p : SeatState = c.seats 0 in
      let d0 : SeatState = record p { held = None } in let d1 : SeatState = shown_seat p Note (Some i) in
      let made : c.made ≢ 0 = λ e. let q = r.sound.unmade 0 (omega arith) in
      let k : Spent ≡ Producer = ap (λ (d : SeatState). d.kind) (sym q) ∙ r.sound.producer in cc in
      let live : v.seat.kind ≢ Spent = λ e. let k : Producer ≡ Spent = sym r.sound.producer ∙ ap (λ (d : SeatState). d.kind) seat
      ∙ e in cc in
      let at_zero : c'.seats 0 ≡ d0 = put_else (updated c.seats 0 d0) c.made d1 0 (λ e. made (sym e)) ∙ put_here c.seats 0 d0 in
      reseated o s r c' (vs ++ handed_view v ∷ []) (kept_hand numbers touches c r.sound i holds' (omega arith)) refl refl
      (shows_same c c' s.words r.shows refl refl refl refl refl refl) refl refl
      (length-append vs (handed_view v ∷ []) ∙ ap (λ (x : ℕ). x + 1) (n ∙ r.made))
      (λ j w at. ⊎_elim
      (λ (t : (get_elem? vs j ≡ some w) × (j < length vs)). ⊎_elim
      (λ (u : (j ≡ id) × (without_batch v ≡ w)). subst (λ (x : ℕ × View). ViewOk o.shards.value c' x.0 x.1) (λ k. (sym (u.0 ∙ z) k, u.1 k))
      (same_seen o.shards.value c c' 0 v (without_batch v) ok refl (refl, refl, refl)
      (at_zero ∙ ap (λ (d : SeatState). record d { held = None }) seat) ok.turn (λ j q e. let z : None ≡ Some j = e in cc) (λ _. refl)
      (later_acked c.acked c.made 0 v.seat.acked v.acked_known ok.acked_known)))
      (λ (u : (j ≢ id) × (get_elem? s.views j ≡ some w)). let l = t.1 in
      let m = r.made in same_view o.shards.value c c' j w
      (put_else (updated c.seats 0 d0) c.made d1 j (λ e. omega arith) ∙ put_else c.seats 0 d0 j (λ e. u.0 (e ∙ sym z))) refl refl refl refl
      (made_acked c.acked c.made j w.seat.acked w.acked_known (alone s r id j v w has u.1 (λ e. u.0 (sym e)))
      (r.each_view j w u.1).acked_known) (r.each_view j w u.1))
      (at_set s.views id j (without_batch v) w t.0))
      (λ (t : (j ≡ length vs) × (handed_view v ≡ w)). let m : j ≡ c.made = t.0 ∙ n
      ∙ r.made in subst (ViewOk o.shards.value c' j) t.1 record {
        seat = ap (updated (updated c.seats 0 d0) c.made d1) m ∙ put_here (updated c.seats 0 d0) c.made d1
            ∙ ap₂ (λ (d : SeatState) (h : Option ℕ). shown_seat d Note h) seat (sym holds);
        base = λ _. ok.base live;
        known = ok.known;
        absorbed = ok.absorbed;
        seen = ok.seen;
        producer = λ e. let q : Note ≡ Producer = e in cc;
        whole = λ y. absurd (made (sym m ∙ y));
        head = λ y. absurd (made (sym m ∙ y));
        turn = λ k e. let q : None ≡ Some k = e in cc;
        pieces = ok.pieces;
        idle = ok.idle;
        acked_known = plain_acked c.acked (c.made + 1) j v.seat.acked;
      })
      (snoc_at vs (handed_view v) w j at))

  -- a session takes in a note, or the producer a seat that is done
  abbrev pub CanTakeIn : ℕ → View → View → Type 0
  CanTakeIn id v w = ((v.seat.kind ≡ Worker) × (w.seat.kind ≡ Note) × ((v.seat.held ≡ None) ⊎ (w.seat.held ≡ None)))
      ⊎ ((id ≡ 0) × (w.seat.kind ≡ Worker) × (w.seat.held ≡ None) × (w.seat.turn ≡ None) × (w.seat.claim ≡ Free))

  -- whom a seat takes in was not taken in before
  live_other : (id : ℕ) (v w : View) → CanTakeIn id v w → w.seat.kind ≢ Spent
  live_other id v w can e = ⊎_elim
      (λ (a : (v.seat.kind ≡ Worker) × (w.seat.kind ≡ Note) × ((v.seat.held ≡ None) ⊎ (w.seat.held ≡ None))). let q : Note ≡ Spent = sym a.1
      ∙ e in cc)
      (λ (a : (id ≡ 0) × (w.seat.kind ≡ Worker) × (w.seat.held ≡ None) × (w.seat.turn ≡ None) ×
      (w.seat.claim ≡ Free)). let q : Worker ≡ Spent = sym a.1 ∙ e in cc) can

  -- at most one of them holds a batch
  holds_one : (id : ℕ) (v w : View) → CanTakeIn id v w → (v.seat.held ≡ None) ⊎ (w.seat.held ≡ None)
  holds_one id v w can = ⊎_elim
      (λ (a : (v.seat.kind ≡ Worker) × (w.seat.kind ≡ Note) × ((v.seat.held ≡ None) ⊎ (w.seat.held ≡ None))). a.2)
      (λ (a : (id ≡ 0) × (w.seat.kind ≡ Worker) × (w.seat.held ≡ None) × (w.seat.turn ≡ None) × (w.seat.claim ≡ Free)). inr a.2) can

  pub joins : (id : ℕ) (v : View) (other : ℕ) (w : View)
      → CanTakeIn id v w
      → (v.absorbed ≡ []) × (w.absorbed ≡ []) → Joins (Linked o) id v other w (joined_view v w) spent_view
  joins id v other w can calm s r has ne has' =
      let c : RingState = r.core in let ok = r.each_view id v has in
      let there : get_elem? s.views other ≡ some w = sym (set_else s.views id other (joined_view v w) ne) ∙ has' in
      let wo = r.each_view other w there in
      let seat : c.seats id ≡ v.seat = ok.seat in let seat' : c.seats other ≡ w.seat = wo.seat in
      let away : v.seat.kind ≡ Worker → id ≢ 0 = λ k z. let q : Producer ≡ Worker = sym r.sound.producer
      ∙ ap (λ (j : ℕ). (c.seats j).kind) (sym z) ∙ ap (λ (d : SeatState). d.kind) seat ∙ k in cc in
      let ask : CanJoin numbers touches c id other = can_join numbers touches c r.sound id other (⊎_elim
      (λ (a : (v.seat.kind ≡ Worker) × (w.seat.kind ≡ Note) × ((v.seat.held ≡ None) ⊎ (w.seat.held ≡ None))). inl (
        away a.0,
        ap (λ (d : SeatState). d.kind) seat ∙ a.0,
        ap (λ (d : SeatState). d.kind) seat'
            ∙ a.1,
        ⊎_elim (λ e. inl (ap (λ (d : SeatState). d.held) seat ∙ e)) (λ e. inr (ap (λ (d : SeatState). d.held) seat' ∙ e)) a.2,
      ))
      (λ (a : (id ≡ 0) × (w.seat.kind ≡ Worker) × (w.seat.held ≡ None) × (w.seat.turn ≡ None) × (w.seat.claim ≡ Free)). inr (
        a.0,
        ap (λ (d : SeatState). d.kind) seat' ∙ a.1,
        ap (λ (d : SeatState). d.held) seat' ∙ a.2,
        ap (λ (d : SeatState). d.turn) seat'
            ∙ a.3,
        ap (λ (d : SeatState). d.claim) seat' ∙ a.4,
      )) can) in
      let c' : RingState = after_join numbers touches c id other in let d : SeatState = joined (c.seats id) (c.seats other) in
      let m : View = joined_view v w in
      let acts : v.seat.kind ≢ Spent = λ e. ⊎_elim
      (λ (a : (c.seats id).kind ≡ Producer). let q : Producer ≡ Spent = sym a ∙ ap (λ (x : SeatState). x.kind) seat ∙ e in cc)
      (λ (a : (c.seats id).kind ≡ Worker). let q : Worker ≡ Spent = sym a ∙ ap (λ (x : SeatState). x.kind) seat ∙ e in cc) ask.acts in
      let at_me : c'.seats id ≡ d = put_else (updated c.seats id d) other nobody id (λ e. ne (sym e)) ∙ put_here c.seats id d in
      let av = (has_seen o s r id v has).2 in
      let aw = (has_seen o s r other w there).2 in
      let flushes : (n : ℕ) (b : Bool) → w.acked_known.is_flush ≡ b → cond b (Some w.acked_known.raised)
      None ≡ Some n → max v.seat.acked w.seat.acked ≤ n = λ n b q e.
      elim b as (λ (x : Bool). w.acked_known.is_flush ≡ x → cond x (Some w.acked_known.raised)
      None ≡ Some n → max v.seat.acked w.seat.acked ≤ n) [
        | true ↦ λ q e. let i : w.acked_known.raised ≡ n = cc in let z = (wo.acked_known.raised q).1 in omega arith
        | false ↦ λ q e. let z : None ≡ Some n = e in cc
      ] q e in
      let one = holds_one id v w can in
      let mine : ViewOk o.shards.value c' id m = record {
        seat = at_me ∙ ap₂ joined seat seat';
        base = λ _. ((ok.base acts).0, (wo.base (live_other id v w can)).0, (ok.base acts).2);
        known = ok.known;
        absorbed = wo.known;
        seen = λ z. let a = ok.seen calm.0 in let b = wo.seen calm.1 in let n : length w.history ≡ 0 = ap length z in omega arith;
        producer = ok.producer;
        whole = λ z. ok.whole z;
        head = λ z. ok.head z;
        turn = ok.turn;
        pieces = joined_pieces c v w one ok.idle wo.idle ok.pieces wo.pieces;
        idle = joined_idle v w ok.idle wo.idle;
        acked_known = record {
          raised = ok.acked_known.raised;
          retired = λ n e. flushes n w.acked_known.is_flush refl e;
          alone = ok.acked_known.alone;
        };
      } in
      reseated o s r c' (set (set s.views id m) other spent_view) (kept_join numbers touches c r.sound id other ask) refl refl
      (shows_same c c' s.words r.shows refl refl refl refl refl refl) refl refl
      (length-set (set s.views id m) other spent_view ∙ length-set s.views id m ∙ r.made)
      (λ j x at. ⊎_elim
      (λ (t : (j ≡ other) × (spent_view ≡ x)). subst (λ (y : ℕ × View). ViewOk o.shards.value c' y.0 y.1) (λ k. (sym t.0 k, t.1 k)) record {
        seat = put_here (updated c.seats id d) other nobody;
        base = λ live. absurd (live refl);
        known = (c'.batches, refl);
        absorbed = (c'.batches, refl);
        seen = λ _. omega arith;
        producer = λ e. let q : Spent ≡ Producer = e in cc;
        whole = λ z. absurd (ask.away z);
        head = λ z. absurd (ask.away z);
        turn = λ k e. let q : None ≡ Some k = e in cc;
        pieces = λ i k e. let q : None ≡ Some i = e in cc;
        idle = λ _. refl;
        acked_known = plain_acked c.acked c.made other 0;
      })
      (λ (t : (j ≢ other) × (get_elem? (set s.views id m) j ≡ some x)). ⊎_elim
      (λ (u : (j ≡ id) × (m ≡ x)). subst (λ (y : ℕ × View). ViewOk o.shards.value c' y.0 y.1) (λ k. (sym u.0 k, u.1 k)) mine)
      (λ (u : (j ≢ id) × (get_elem? s.views j ≡ some x)). same_view o.shards.value c c' j x
      (put_else (updated c.seats id d) other nobody j t.0 ∙ put_else c.seats id d j u.0) refl refl refl refl (r.each_view j x u.1).acked_known
      (r.each_view j x u.1))
      (at_set s.views id j m x t.1))
      (at_set (set s.views id m) other j spent_view x at))
