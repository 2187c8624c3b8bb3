-- How a sound step of the ring's machine becomes a step that keeps the rule of the table.
use Rattle.std.proofs.Common.{◌≡◌, ◌≢◌, ℕ, zero, suc, ◌<◌, ◌≤◌, List, [], ◌∷◌, length, get_or, set, Some, None, sym, refl, ap, ◌∙◌, subst, inl, inr, ⊎_elim, arith, length-set}
use mathlib.Core.Option.{some}
use lib.ListN.{get_elem?}
use lib.Seq.{set-get_or}
use Rattle.atomic_table.specs.Table.{Act, keeps, Valid, carried_after, stepped}
use Rattle.atomic_table.proofs.Lists.{at_set}
use Rattle.wal_base.specs.Prefixes.{IsPrefixOf}
use Rattle.wal_base.proofs.Laws.{at_prefix, prefix_same, prefix_then}
use Rattle.batch_repr.specs.declared.batch.Batch.{Batch}
use Rattle.batch_repr.specs.declared.limits.TheConstants.{BATCHES_MAX}
use Rattle.memtable_shards.specs.Versions.{Version}
use Rattle.publish_core.specs.declared.seat.Kind.TheVariants.{Producer, Worker, Spent}
use Rattle.publish_core.specs.declared.seat.SeatState.{SeatState}
use Rattle.publish_core.specs.declared.state.TheConstants.{END_LIMIT}
use Rattle.publish_core.specs.Machine.{Among, updated, ends, Acts, nobody}
use Rattle.publish_core.proofs.Laws.{put_here, put_else, at_put}
use Rattle.commit_queue.specs.declared.pipe_table.TableOpening.{TableOpening}
use Rattle.commit_queue.specs.declared.view.AckedKnown.{AckedKnown}
use Rattle.commit_queue.specs.declared.view.View.{View}
use Rattle.commit_queue.specs.Shards.{HasVersions}
use Rattle.commit_queue.specs.Rule.{RingState, Slot, TableState, numbers, IsSoundRing, Shows, PiecesOk, ViewOk, AckedKnownOk, Linked}
use Rattle.commit_queue.specs.Views.{no_acked}
use Rattle.commit_queue.specs.Tells.{Seated}

-- a seat that acts was not taken in
pub acts_live : (d : SeatState) → Acts d → d.kind ≢ Spent
acts_live d acts e = ⊎_elim (λ (a : d.kind ≡ Producer). let k : Spent ≡ Producer = sym e ∙ a in cc)
    (λ (a : d.kind ≡ Worker). let k : Spent ≡ Worker = sym e ∙ a in cc) acts

-- what a seat has seen is there
pub has_seen : (o : TableOpening) (s : TableState) (r : Linked o s) (id : ℕ) (v : View) → get_elem? s.views id ≡ some v
    → (v.seat.seen ≤ length r.core.batches) × (v.seat.published ≤ r.core.published) × (v.seat.acked ≤ r.core.acked)
has_seen o s r id v has = let d = r.sound.each_seat id in
    subst (λ (x : SeatState). (x.seen ≤ length r.core.batches) × (x.published ≤ r.core.published) × (x.acked ≤ r.core.acked))
    (r.each_view id v has).seat (d.seen, d.published.0, d.acked)

-- what a step of the seat id owes, after which these are the words, its view and the machine's state
pub record Becomes (o : TableOpening) (s : TableState) (r : Linked o s) (id : ℕ) : Type 0 where
  pub words : List ℕ
  pub view : View
  pub core : RingState
  pub sound : IsSoundRing core
  pub same_base : core.base ≡ r.core.base
  pub same_made : core.made ≡ r.core.made
  pub seats : core.seats ≡ updated r.core.seats id view.seat
  pub longer : IsPrefixOf r.core.batches core.batches
  pub others : id ≢ 0 → (core.batches ≡ r.core.batches) × (core.head ≡ r.core.head)
  pub few : length core.batches ≤ BATCHES_MAX
  pub small : (i : ℕ) → i < length core.batches → ends numbers core.base core.batches (suc i) < END_LIMIT
  pub first : (i : ℕ) (b : Batch) → get_elem? core.batches i ≡ some b → b.first ≡ ends numbers core.base core.batches i
  pub shows : Shows core words
  pub base_is : view.seat.kind ≢ Spent → (view.base ≡ r.core.base) × (view.absorbed_base ≡ r.core.base) × (view.opening ≡ o.shards.value)
  pub known : IsPrefixOf view.history core.batches
  pub absorbed : IsPrefixOf view.absorbed core.batches
  pub seen : view.absorbed ≡ [] → view.seat.seen ≤ length view.history
  pub producer : view.seat.kind ≡ Producer → id ≡ 0
  pub whole : id ≡ 0 → view.history ≡ core.batches
  pub head : id ≡ 0 → view.head ≡ core.head
  pub dones : core.done ≡ r.core.done
  pub turns : core.turn ≡ r.core.turn
  pub hand : (k : ℕ) → view.seat.turn ≡ Some k → HasVersions o.shards.value r.core.batches (r.core.done k) k view.taken
  pub pieces : PiecesOk r.core view
  pub idle : view.seat.held ≡ None → view.pieces ≡ []
  pub acked_known : AckedKnownOk core.acked core.made id view.seat.acked view.acked_known
  pub acked_others : (j a : ℕ) (k : AckedKnown) → j ≢ id → AckedKnownOk r.core.acked r.core.made j a k
      → AckedKnownOk core.acked core.made j a k

-- writing what is there changes nothing
pub put_again : (f : ℕ → SeatState) (i : ℕ) (d : SeatState) → f i ≡ d → f ≡ updated f i d
put_again f i d e = λ k j. at_put (λ (q : ℕ) (x : SeatState). f q ≡ x) f i d j e (λ _. refl) k

-- A step that leaves all as it was. One that changes only some of it is this record with those parts given anew
abbrev pub still : (o : TableOpening) (s : TableState) (r : Linked o s) (id : ℕ) (v : View) → get_elem? s.views id ≡ some v → Becomes o s r id
still o s r id v has = let ok = r.each_view id v has in record {
  words = s.words;
  view = v;
  core = r.core;
  sound = r.sound;
  same_base = refl;
  same_made = refl;
  seats = put_again r.core.seats id v.seat ok.seat;
  longer = prefix_same r.core.batches;
  others = λ _. (refl, refl);
  few = r.few;
  small = r.small;
  first = r.first;
  shows = r.shows;
  base_is = ok.base;
  known = ok.known;
  absorbed = ok.absorbed;
  seen = ok.seen;
  producer = ok.producer;
  whole = ok.whole;
  head = ok.head;
  dones = refl;
  turns = refl;
  hand = ok.turn;
  pieces = ok.pieces;
  idle = ok.idle;
  acked_known = ok.acked_known;
  acked_others = λ j a k _ h. h;
}

-- a batch that stands at its place in the longer list, and whose place is within the shorter one, stands there too
pub prefix_at : (xs ys : List Batch) → IsPrefixOf xs ys → (i : ℕ) → i < length xs → (b : Batch) → get_elem? ys i ≡ some b
    → get_elem? xs i ≡ some b
prefix_at xs ys pre i l b e = let x = at_some xs i l in x.1 ∙ sym (at_prefix xs ys pre i x.0 x.1) ∙ e
  where
    at_some : (xs : List Batch) (i : ℕ) → i < length xs → (x : Batch) × (get_elem? xs i ≡ some x)
    at_some [] i l = absurd (omega arith)
    at_some (x ∷ xs) zero l = (x, refl)
    at_some (x ∷ xs) (suc i) l = at_some xs i (omega arith)

-- a shard's versions stay those of the opening and of what is applied, as batches are appended
keeps_versions : (o : TableOpening) (s : TableState) (r : Linked o s) (c : RingState) → IsPrefixOf r.core.batches c.batches
    → c.done ≡ r.core.done → (k : ℕ) (x : List Version)
    → HasVersions o.shards.value r.core.batches (r.core.done k) k x → HasVersions o.shards.value c.batches (c.done k) k x
keeps_versions o s r c longer dones k x h = subst (λ (d : List ℕ). HasVersions o.shards.value c.batches d k x)
    (ap (λ (f : ℕ → List ℕ). f k) (sym dones)) (
      h.0,
      h.1,
      λ v. (
        (λ has. ⊎_elim (λ old. inl old) (λ new. inr (new.0, new.1, new.2, at_prefix r.core.batches c.batches longer new.0 new.1 new.3, new.4)) ((h.2 v).0 has)),
        (λ has. ⊎_elim (λ old. (h.2 v).1 (inl old))
            (λ new. (h.2 v).1 (inr
            (new.0, new.1, new.2, prefix_at r.core.batches c.batches longer new.0 (r.sound.known new.0 k new.2) new.1 new.3, new.4))) has),
      ),
    )

-- the batch that a seat holds is applied in the same shards, where the same are applied
pub same_pieces : (c c' : RingState) (v : View) → c'.done ≡ c.done → PiecesOk c v → PiecesOk c' v
same_pieces c c' v dones h = λ i k e. let p = h i k e in (λ a. p.0 (subst (λ (f : ℕ → List ℕ). Among i (f k)) dones a), p.1)

-- the view but for what a seat holds, and for what it applied and knows
abbrev but_hands : View → View
but_hands v = record v { seat = record nobody { kind = v.seat.kind; seen = v.seat.seen }; acked_known = no_acked; taken = []; pieces = [] }

-- a view that a step changes only in these, of a state with the same batches
pub same_seen : (opening : List (List Version)) (c c' : RingState) (j : ℕ) (v v' : View) → ViewOk opening c j v → but_hands v' ≡ but_hands v
    → (c'.base ≡ c.base) × (c'.batches ≡ c.batches) × (c'.head ≡ c.head) → c'.seats j ≡ v'.seat
    → ((k : ℕ) → v'.seat.turn ≡ Some k → HasVersions opening c'.batches (c'.done k) k v'.taken) → PiecesOk c' v'
    → (v'.seat.held ≡ None → v'.pieces ≡ []) → AckedKnownOk c'.acked c'.made j v'.seat.acked v'.acked_known → ViewOk opening c' j v'
same_seen opening c c' j v v' ok same all seat turn pieces idle acked_known = record {
  seat = seat;
  base = λ live. let e = ok.base (λ q. live (ap (λ (x : View). x.seat.kind) same ∙ q)) in (
    ap (λ (x : View). x.base) same ∙ e.0 ∙ sym all.0,
    ap (λ (x : View). x.absorbed_base) same ∙ e.1 ∙ sym all.0,
    ap (λ (x : View). x.opening) same ∙ e.2,
  );
  known = subst (λ (x : View × List Batch). IsPrefixOf x.0.history x.1) (λ k. (sym same k, sym all.1 k)) ok.known;
  absorbed = subst (λ (x : View × List Batch). IsPrefixOf x.0.absorbed x.1) (λ k. (sym same k, sym all.1 k)) ok.absorbed;
  seen = subst (λ (x : View). x.absorbed ≡ [] → x.seat.seen ≤ length x.history) (sym same) ok.seen;
  producer = λ q. ok.producer (sym (ap (λ (x : View). x.seat.kind) same) ∙ q);
  whole = λ z. ap (λ (x : View). x.history) same ∙ ok.whole z ∙ sym all.1;
  head = λ z. ap (λ (x : View). x.head) same ∙ ok.head z ∙ sym all.2;
  turn = turn;
  pieces = pieces;
  idle = idle;
  acked_known = acked_known;
}

pub linked : (o : TableOpening) (s : TableState) (r : Linked o s) (id : ℕ) (b : Becomes o s r id) → Linked o record {
  words = b.words;
  homes = s.homes;
  views = set s.views id b.view;
}
linked o s r id b = let w : View = b.view in record {
  core = b.core;
  sound = b.sound;
  base_is = b.same_base ∙ r.base_is;
  below = r.below;
  few = b.few;
  small = b.small;
  first = b.first;
  shows = b.shows;
  made = length-set s.views id w ∙ r.made ∙ sym b.same_made;
  each_view = λ j v at. ⊎_elim
      (λ (t : (j ≡ id) × (w ≡ v)). subst (λ (x : ℕ × View). ViewOk o.shards.value b.core x.0 x.1) (λ k. (sym t.0 k, t.1 k)) record {
        seat = ap (λ (f : ℕ → SeatState). f id) b.seats ∙ put_here r.core.seats id w.seat;
        base = λ live. let e = b.base_is live in (e.0 ∙ sym b.same_base, e.1 ∙ sym b.same_base, e.2);
        known = b.known;
        absorbed = b.absorbed;
        seen = b.seen;
        producer = b.producer;
        whole = b.whole;
        head = b.head;
        turn = λ k e. keeps_versions o s r b.core b.longer b.dones k w.taken (b.hand k e);
        pieces = same_pieces r.core b.core w b.dones b.pieces;
        idle = b.idle;
        acked_known = b.acked_known;
      })
      (λ (t : (j ≢ id) × (get_elem? s.views j ≡ some v)). let ok = r.each_view j v t.1 in
      let away : j ≡ 0 → id ≢ 0 = λ z e. t.0 (z ∙ sym e) in record {
        seat = ap (λ (f : ℕ → SeatState). f j) b.seats ∙ put_else r.core.seats id w.seat j t.0 ∙ ok.seat;
        base = λ live. let e = ok.base live in (e.0 ∙ sym b.same_base, e.1 ∙ sym b.same_base, e.2);
        known = prefix_then v.history r.core.batches b.core.batches ok.known b.longer;
        absorbed = prefix_then v.absorbed r.core.batches b.core.batches ok.absorbed b.longer;
        seen = ok.seen;
        producer = ok.producer;
        whole = λ z. ok.whole z ∙ sym (b.others (away z)).0;
        head = λ z. ok.head z ∙ sym (b.others (away z)).1;
        turn = λ k e. keeps_versions o s r b.core b.longer b.dones k v.taken (ok.turn k e);
        pieces = same_pieces r.core b.core v b.dones ok.pieces;
        idle = ok.idle;
        acked_known = b.acked_others j v.seat.acked v.acked_known t.0 ok.acked_known;
      })
      (at_set s.views id j w v at);
  homes = λ k l z. let h = r.homes k l (ap (λ (f : ℕ → ℕ). f k) (sym b.turns) ∙ z) in
      (h.0, h.1, keeps_versions o s r b.core b.longer b.dones k h.0 h.2);
}

-- a load keeps the rule, with a new view
abbrev pub Goes : TableOpening → TableState → ℕ → ℕ → Seated → (ℕ → Seated → Type 0) → ℕ → Type 0
Goes o s k id me then x = (w : View) × (a : Act Slot) × Valid s.homes me.1 a × Linked o (stepped s k x id me.1 w a) × then
    (get_or s.words k 0) (w, carried_after me.1 a)

pub stays : (o : TableOpening) (s : TableState) (k id : ℕ) (me : Seated) (then : ℕ → Seated → Type 0) (w : View)
    → Linked o record {
      words = s.words;
      homes = s.homes;
      views = set s.views id w;
    } → then (get_or s.words k 0) (w, me.1) → Goes o s k id me then (get_or s.words k 0)
stays o s k id me then w l told = (
  w,
  keeps,
  tt,
  subst (λ (ws : List ℕ). Linked o record { words = ws; homes = s.homes; views = set s.views id w })
      (sym (set-get_or s.words k 0)) l,
  told,
)
