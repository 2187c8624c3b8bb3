-- Taking a shard out of its slot and giving it back keep the rule of the table.
use Rattle.std.proofs.Common.{◌≡◌, ◌≢◌, ◌⊎◌, ℕ, zero, suc, ◌+◌, ◌-◌, ◌<◌, eqb, List, [], ◌∷◌, length, get_or, set, Option, Some, None, sym, refl, ap, ◌∙◌, subst, inl, inr, ⊎_elim, arith, length-set}
use mathlib.Core.Logic.{dite}
use mathlib.Core.Option.{none, some}
use mathlib.Core.Option as maybe
use native.Mathlib.Decide.{ℕ_discrete}
use lib.ListN.{get_elem?}
use lib.Seq.{set-get_or}
use prog.Atomic.{either}
use Rattle.atomic_table.specs.Table.{step, keeps, takes, gives, rest, put_back, Allows}
use Rattle.atomic_table.proofs.Lists.{at_set, set_here, set_else, exchanged}
use Rattle.wal_base.proofs.Laws.{at_prefix}
use Rattle.batch_repr.specs.declared.batch.Batch.{Batch}
use Rattle.memtable_shards.specs.declared.sharding.TheConstants.{SHARDS}
use Rattle.memtable_shards.specs.Versions.{Version}
use Rattle.memtable_shards.specs.Versions.{piece_in, touches, Gains, HasSameVersions}
use Rattle.publish_core.specs.declared.seat.Pair.{Pair}
use Rattle.publish_core.specs.declared.seat.SeatState.{SeatState}
use Rattle.publish_core.specs.declared.seat.Stage.{Stage}
use Rattle.publish_core.specs.declared.seat.Stage.TheVariants.{Held, Marked, Claimed, Cleared, Out}
use Rattle.publish_core.specs.Machine.{updated, Acts, Among, ends, one_more, after_busy}
use Rattle.publish_core.specs.Sound.{InStage, AllDone}
use Rattle.publish_core.proofs.Laws.{put_here, put_else, at_put}
use Rattle.publish_core.proofs.Laws.{kept_take, kept_busy, giving, applying}
use Rattle.commit_queue.specs.declared.pipe_table.TableOpening.{TableOpening}
use Rattle.commit_queue.specs.declared.view.View.{View}
use Rattle.commit_queue.specs.declared.layout.TheConstants.{TURNS_FROM}
use Rattle.commit_queue.specs.Shards.{NumberedBelow, HasVersions, AreApplied, ShowsBelow}
use Rattle.commit_queue.specs.Rule.{RingState, Slot, TableState, numbers, IsSoundRing, turn_word, Shows, PiecesOk, ViewOk, AtHome, Linked}
use Rattle.commit_queue.specs.Views.{taking_view, busy_view, given_view, applied_view}
use Rattle.commit_queue.specs.Tells.{Seated, TakesShard, TellsTaken, TellsGiven, TellsApplied}
use Rattle.commit_queue.proofs.Becomes.{acts_live, still, linked, has_seen, same_seen, Goes}
use Rattle.commit_queue.proofs.Words.{shows_seats, shows_turn}
use Rattle.commit_queue.proofs.Versioned.{same_versions, gains_piece, shows_below, lacks_piece}
use Rattle.commit_queue.proofs.Shown.{contained}

-- the word of a shard is 0 where no seat has the turn
no_turn : (t : ℕ) → turn_word t ≡ 0 → t ≡ 0
no_turn zero e = refl
no_turn (suc j) e = absurd (omega arith)

-- ---- a step of a seat on a shard

-- the seat, with this turn and this knowledge
abbrev seat_after : SeatState → Option ℕ → List Pair → SeatState
seat_after d turn knows = record d { turn = turn; knows = knows }

-- its view, where it took these versions and applied its batch in these shards
abbrev view_after : View → Option ℕ → List Pair → List Version → List ℕ → View
view_after v turn knows taken pieces = record v { seat = seat_after v.seat turn knows; taken = taken; pieces = pieces }

-- the machine's state, where this is the seat id, with these turns and this done in each shard
abbrev core_after : RingState → ℕ → SeatState → (ℕ → ℕ) → (ℕ → List ℕ) → RingState
core_after c id d turn done = record c { turn = turn; done = done; seats = updated c.seats id d }

-- what a step of the seat id, whose view is v, on the shard k owes
record Moves (o : TableOpening) (s : TableState) (r : Linked o s) (id k : ℕ) (words : List ℕ) (homes : List (maybe.Option Slot))
    (v : View) : Type 0 where
  hand : Option ℕ
  knows : List Pair
  taken : List Version
  pieces : List ℕ
  turn : ℕ → ℕ
  done : ℕ → List ℕ
  sound : IsSoundRing (core_after r.core id (seat_after v.seat hand knows) turn done)
  shows : Shows (core_after r.core id (seat_after v.seat hand knows) turn done) words
  else_turn : (q : ℕ) → q ≢ k → turn q ≡ r.core.turn q
  else_done : (q : ℕ) → q ≢ k → done q ≡ r.core.done q
  else_home : (q : ℕ) → q ≢ k → get_elem? homes q ≡ get_elem? s.homes q
  -- no other seat has the turn
  alone : (j : ℕ) → j ≢ id → r.core.turn k ≢ suc j
  -- what is done more is done of the batch that the seat holds
  more : (i q : ℕ) → Among i (done q) → Among i (r.core.done q) ⊎ (v.seat.held ≡ Some i)
  has : (q : ℕ) → hand ≡ Some q → HasVersions o.shards.value r.core.batches (done q) q taken
  has_pieces : PiecesOk (core_after r.core id (seat_after v.seat hand knows) turn done) (view_after v hand knows taken pieces)
  idle : v.seat.held ≡ None → pieces ≡ []
  home : turn k ≡ 0 → AtHome o.shards.value (core_after r.core id (seat_after v.seat hand knows) turn done) homes k

module _ (o : TableOpening) (s : TableState) (r : Linked o s) (id k : ℕ) (words : List ℕ) (homes : List (maybe.Option Slot)) (v : View)
    (at : get_elem? s.views id ≡ some v) (m : Moves o s r id k words homes v) where
  abbrev new_seat : SeatState
  new_seat = seat_after v.seat m.hand m.knows

  abbrev new_core : RingState
  new_core = core_after r.core id new_seat m.turn m.done

  abbrev new_view : View
  new_view = view_after v m.hand m.knows m.taken m.pieces

  -- the view of the seat
  own_view : ViewOk o.shards.value new_core id new_view
  own_view = same_seen o.shards.value r.core new_core id v new_view (r.each_view id v at) refl (refl, refl, refl)
      (put_here r.core.seats id new_seat) m.has m.has_pieces m.idle (r.each_view id v at).acked_known

  -- the view of another
  other_view : (j : ℕ) (x : View) → j ≢ id → get_elem? s.views j ≡ some x → ViewOk o.shards.value new_core j x
  other_view j x away there =
      let ok = r.each_view j x there in
      let mine = r.each_view id v at in
      let same_done : (q : ℕ) → x.seat.turn ≡ Some q → r.core.done q ≡ m.done q = λ q e.
      let has = (r.sound.each_seat j).turn q (ap (λ (d : SeatState). d.turn) ok.seat ∙ e) in
      sym (m.else_done q (λ z. m.alone j away (ap r.core.turn (sym z) ∙ has.1))) in
      let one_holds : (i : ℕ) → x.seat.held ≡ Some i → v.seat.held ≡ Some i → j ≡ id = λ i e e'.
      let its = ((r.sound.each_seat j).held i (ap (λ (d : SeatState). d.held) ok.seat ∙ e)).1 in
      let here = ((r.sound.each_seat id).held i (ap (λ (d : SeatState). d.held) mine.seat ∙ e')).1 in
      let both : Held j ≡ Held id = sym its ∙ here in cc in
      same_seen o.shards.value r.core new_core j x x ok refl (refl, refl, refl) (put_else r.core.seats id new_seat j away ∙ ok.seat)
      (λ q e. subst (λ (d : List ℕ). HasVersions o.shards.value r.core.batches d q x.taken) (same_done q e) (ok.turn q e))
      (λ i q e. let p = ok.pieces i q e in
      ((λ a. ⊎_elim (λ before. p.0 before) (λ mine. absurd (away (one_holds i e mine))) (m.more i q a)), p.1))
      ok.idle ok.acked_known

  moved : Linked o record {
    words = words;
    homes = homes;
    views = set s.views id new_view;
  }
  moved = record {
    core = new_core;
    sound = m.sound;
    base_is = r.base_is;
    below = r.below;
    few = r.few;
    small = r.small;
    first = r.first;
    shows = m.shows;
    made = length-set s.views id new_view ∙ r.made;
    each_view = λ j x there. ⊎_elim
        (λ (t : (j ≡ id) × (new_view ≡ x)). subst (λ (y : ℕ × View). ViewOk o.shards.value new_core y.0 y.1) (λ q. (sym t.0 q, t.1 q)) own_view)
        (λ (t : (j ≢ id) × (get_elem? s.views j ≡ some x)). other_view j x t.0 t.1)
        (at_set s.views id j new_view x there);
    homes = λ q l z. dite (ℕ_discrete q k)
        (λ e. subst (AtHome o.shards.value new_core homes) (sym e) (m.home (ap m.turn (sym e) ∙ z)))
        (λ ne. let h = r.homes q l (sym (m.else_turn q ne) ∙ z) in (
          h.0,
          m.else_home q ne ∙ h.1,
          subst (λ (d : List ℕ). HasVersions o.shards.value r.core.batches d q h.0) (sym (m.else_done q ne)) h.2,
        ));
  }

-- ---- the steps

module _ (o : TableOpening) where
  -- a batch before the tail is applied wherever it leaves a version
  before_tail : (c : RingState) → IsSoundRing c → (i : ℕ) → i < c.tail → AllDone numbers touches c i
  before_tail c sound i lt = let a = sound.tail_head in let b = sound.head_length in go (c.stage i) (sound.each_batch i (omega arith)).stands
    where
      go : (st : Stage) → InStage numbers touches c i st → AllDone numbers touches c i
      go (Held j) h = let l = h.0 in absurd (omega arith)
      go Marked h = h.2
      go (Claimed j) h = h.2
      go (Cleared j) h = h.2
      go Out h = h.1

  -- what a seat is told of the shard k, which is at home with the versions y
  told_taken : (s : TableState) (r : Linked o s) (id k : ℕ) (v : View) (y : List Version) → get_elem? s.views id ≡ some v → Acts v.seat
      → HasVersions o.shards.value r.core.batches (r.core.done k) k y → TakesShard v k y (taking_view v k y)
  told_taken s r id k v y at acts has =
      let c : RingState = r.core in let ok = r.each_view id v at in let sound = r.sound in
      let same = ok.base (acts_live v.seat acts) in
      let published = (has_seen o s r id v at).1 in
      let covers : AreApplied v.history v.seat.published (c.done k) k = λ i b lt there t.
      before_tail c sound i (let l = sound.published_tail in omega arith) b k (at_prefix v.history c.batches ok.known i b there) t in record {
        view = refl;
        batches = c.batches;
        done = c.done k;
        goes_on = ok.known;
        has = subst (λ (l : List (List Version)). HasVersions l c.batches (c.done k) k y) (sym same.2) has;
        covers = covers;
        below = subst (λ (l : List (List Version) × ℕ).
            ShowsBelow l.0 v.history v.seat.published (ends numbers l.1 v.history v.seat.published) k y) (λ q. (sym same.2 q, sym same.0 q))
            (shows_below o.shards.value c.base v.history c.batches (c.done k) k v.seat.published y r.first ok.known covers has);
        lacks = λ i b holds there new. lacks_piece o.shards.value c.base c.batches (c.done k) k i b y
            (subst (λ (n : ℕ). NumberedBelow n o.shards.value) (sym r.base_is) r.below) r.first (at_prefix v.history c.batches ok.known i b there)
            (λ a. new (contained k v.pieces ((ok.pieces i k holds).0 a))) has;
      }

  -- the shard is at home, and the seat takes it
  takes_free : (s : TableState) (r : Linked o s) (id k : ℕ) (v : View) (y : List Version) → get_elem? s.views id ≡ some v → k < SHARDS
      → Acts v.seat → v.seat.turn ≡ None → r.core.turn k ≡ 0 → HasVersions o.shards.value r.core.batches (r.core.done k) k y
      → Linked o record {
        words = set s.words (k + TURNS_FROM) 1;
        homes = set s.homes k none;
        views = set s.views id (taking_view v k y);
      }
  takes_free s r id k v y at small acts no_hand free has =
      let c : RingState = r.core in let ok = r.each_view id v at in let turn : ℕ → ℕ = updated c.turn k (suc id) in
      moved o s r id k (set s.words (k + TURNS_FROM) 1) (set s.homes k none) v at record {
        hand = Some k;
        knows = v.seat.knows;
        taken = y;
        pieces = v.pieces;
        turn = turn;
        done = c.done;
        sound = subst (λ (d : SeatState). IsSoundRing (core_after c id (seat_after d (Some k) d.knows) turn c.done)) ok.seat
            (kept_take numbers touches c r.sound id k (subst Acts (sym ok.seat) acts) small
            (ap (λ (d : SeatState). d.turn) ok.seat ∙ no_hand) free);
        shows = shows_turn c (core_after c id (seat_after v.seat (Some k) v.seat.knows) turn c.done) s.words k 1 (suc id) small r.shows
            refl refl refl refl refl refl refl;
        else_turn = put_else c.turn k (suc id);
        else_done = λ q ne. refl;
        else_home = λ q ne. set_else s.homes k q none ne;
        alone = λ j away e. let z : 0 ≡ suc j = sym free ∙ e in omega arith;
        more = λ i q a. inl a;
        has = λ q e. let z : k ≡ q = cc in subst (λ (x : ℕ). HasVersions o.shards.value c.batches (c.done x) x y) z has;
        has_pieces = ok.pieces;
        idle = ok.idle;
        home = λ e. let z : suc id ≡ 0 = sym (put_here c.turn k (suc id)) ∙ e in absurd (omega arith);
      }

  -- the shard is out, and the seat counts that
  finds_busy : (s : TableState) (r : Linked o s) (id k : ℕ) (v : View) → get_elem? s.views id ≡ some v → Acts v.seat
      → Linked o record {
        words = set s.words (k + TURNS_FROM) (get_or s.words (k + TURNS_FROM) 0);
        homes = s.homes;
        views = set s.views id (busy_view v);
      }
  finds_busy s r id k v at acts =
      let c : RingState = r.core in let ok = r.each_view id v at in
      subst (λ (ws : List ℕ). Linked o record { words = ws; homes = s.homes; views = set s.views id (busy_view v) })
      (sym (set-get_or s.words (k + TURNS_FROM) 0))
      (linked o s r id (record (still o s r id v at) {
        view = busy_view v;
        core = after_busy numbers touches c id;
        sound = kept_busy numbers touches c r.sound id (subst Acts (sym ok.seat) acts);
        seats = ap (λ (d : SeatState). updated c.seats id (record d { counts = record d.counts { busy = one_more d.counts.busy } })) ok.seat;
        shows = shows_seats c _ s.words r.shows;
      }))

  pub takes_shard : (n id : ℕ) (me : Seated) (k : ℕ) → k < SHARDS → Acts me.0.seat → me.0.seat.turn ≡ None
      → Allows (Linked o) n id me (k + TURNS_FROM) (λ x. either (eqb x 0) 1 x) (TellsTaken (step n (k + TURNS_FROM) 0 1 none) me)
  takes_shard n id me k small acts no_hand s r wide at _ =
      let c : RingState = r.core in let v : View = me.0 in let x : ℕ = get_or s.words (k + TURNS_FROM) 0 in
      let back : k ≡ k + TURNS_FROM - TURNS_FROM = omega arith in
      exchanged x 0 1 (Goes o s (k + TURNS_FROM) id me (TellsTaken (step n (k + TURNS_FROM) 0 1 none) me))
      (λ hit. let free : c.turn k ≡ 0 = no_turn (c.turn k) (sym (r.shows.shard_word k small) ∙ hit) in
      let h = r.homes k small free in let y : List Version = h.0 in (
        taking_view v k y,
        takes k (Some y),
        h.1,
        takes_free s r id k v y at small acts no_hand free h.2,
        (
          (λ _. subst (λ (q : ℕ). (z : List Version) × ((k, Some y) ∷ me.1 ≡ (q, Some z) ∷ me.1) × TakesShard v q z (taking_view v k y)) back
              (y, refl, told_taken s r id k v y at acts h.2)),
          λ miss. absurd (miss hit),
        ),
      ))
      (λ miss. (busy_view v, keeps, tt, finds_busy s r id k v at acts, ((λ hit. absurd (miss hit)), λ _. (refl, refl))))

  -- the seat ends its turn on the shard k, and leaves it at home with the versions y
  ends_turn : (s : TableState) (r : Linked o s) (id k : ℕ) (v : View) (y : List Version) (knows : List Pair) (pieces : List ℕ) (done : ℕ → List ℕ)
      → length s.homes ≡ SHARDS → get_elem? s.views id ≡ some v → (r.core.seats id).turn ≡ Some k
      → IsSoundRing (core_after r.core id (seat_after v.seat None knows) (updated r.core.turn k 0) done)
      → ((q : ℕ) → q ≢ k → done q ≡ r.core.done q)
      → ((i q : ℕ) → Among i (done q) → Among i (r.core.done q) ⊎ (v.seat.held ≡ Some i))
      → PiecesOk (record r.core { done = done }) (view_after v None knows v.taken pieces) → (v.seat.held ≡ None → pieces ≡ [])
      → HasVersions o.shards.value r.core.batches (done k) k y
      → Linked o record {
        words = set s.words (k + TURNS_FROM) 0;
        homes = set s.homes k (some (Some y));
        views = set s.views id (view_after v None knows v.taken pieces);
      }
  ends_turn s r id k v y knows pieces done wide at hand sound else_done more has_pieces idle has =
      let c : RingState = r.core in let turn : ℕ → ℕ = updated c.turn k 0 in
      let mine = (r.sound.each_seat id).turn k hand in let small : k < SHARDS = mine.0 in
      moved o s r id k (set s.words (k + TURNS_FROM) 0) (set s.homes k (some (Some y))) v at record {
        hand = None;
        knows = knows;
        taken = v.taken;
        pieces = pieces;
        turn = turn;
        done = done;
        sound = sound;
        shows = shows_turn c (core_after c id (seat_after v.seat None knows) turn done) s.words k 0 0 small r.shows
            refl refl refl refl refl refl refl;
        else_turn = put_else c.turn k 0;
        else_done = else_done;
        else_home = λ q ne. set_else s.homes k q (some (Some y)) ne;
        alone = λ j away e. let both : suc j ≡ suc id = sym e ∙ mine.1 in away (omega arith);
        more = more;
        has = λ q e. let z : None ≡ Some q = e in cc;
        has_pieces = has_pieces;
        idle = idle;
        home = λ _. (y, set_here s.homes k (some (Some y)) (omega arith), has);
      }

  pub gives_shard : (n id : ℕ) (me : Seated) (k : ℕ) (y : List Version) (slots : List (ℕ × Slot)) → n ≡ SHARDS → Acts me.0.seat
      → me.0.seat.turn ≡ Some k → me.1 ≡ (k, Some y) ∷ slots → HasSameVersions me.0.taken y
      → Allows (Linked o) n id me (k + TURNS_FROM) (λ _. 0) (λ _. TellsGiven (step n (k + TURNS_FROM) 0 0 none) me 0)
  gives_shard n id me k y slots eight acts hand carried same s r wide at _ =
      let c : RingState = r.core in let v : View = me.0 in let ok = r.each_view id v at in
      let has_hand : (c.seats id).turn ≡ Some k = ap (λ (d : SeatState). d.turn) ok.seat ∙ hand in
      let sound : IsSoundRing (core_after c id (seat_after v.seat None v.seat.knows) (updated c.turn k 0) c.done) =
      subst (λ (d : SeatState). IsSoundRing (core_after c id (seat_after d None d.knows) (updated c.turn k 0) c.done)) ok.seat
      (giving numbers touches c r.sound id k (subst Acts (sym ok.seat) acts) has_hand) in
      let has = same_versions o.shards.value c.batches (c.done k) k v.taken y same (ok.turn k hand) in (
        given_view v,
        gives,
        tt,
        subst (λ (l : List (ℕ × Slot)). Linked o record {
          words = set s.words (k + TURNS_FROM) 0;
          homes = put_back s.homes l;
          views = set s.views id (given_view v);
        }) (sym carried)
            (ends_turn s r id k v y v.seat.knows v.pieces c.done (wide ∙ eight) at has_hand sound (λ q ne. refl) (λ i q a. inl a)
            ok.pieces ok.idle has),
        (refl, refl),
      )

  -- no more is done than the batch that the seat holds
  one_more_done : (done : ℕ → List ℕ) (held : Option ℕ) (k i : ℕ) → held ≡ Some i → (j q : ℕ) → Among j (updated done k (i ∷ done k) q)
      → Among j (done q) ⊎ (held ≡ Some j)
  one_more_done done held k i holds j q a = at_put (λ (z : ℕ) (l : List ℕ). Among j l → Among j (done z) ⊎ (held ≡ Some j)) done k (i ∷ done k) q
      (λ m. ⊎_elim (λ same. inr (holds ∙ ap (λ (x : ℕ). Some x) (sym same))) (λ before. inl before) m) (λ _ m. inl m) a

  -- the seat has applied the batch that it holds in the shard k too, and knows that
  applied_pieces : (c : RingState) (v : View) (k i : ℕ) → PiecesOk c v → v.seat.held ≡ Some i
      → PiecesOk (record c { done = updated c.done k (i ∷ c.done k) }) (applied_view v i k)
  applied_pieces c v k i ok holds x q e = let same : i ≡ x = cc in (
    (λ a. at_put (λ (y : ℕ) (l : List ℕ). Among x l → Among y (k ∷ v.pieces)) c.done k (i ∷ c.done k) q (λ _. inl refl)
        (λ _ h. inr ((ok x q e).0 h)) a),
    (λ a. ⊎_elim (λ here. inl (λ j. record { batch = sym same j; shard = here j })) (λ there. inr ((ok x q e).1 there)) a),
  )

  pub gives_applied : (n id : ℕ) (me : Seated) (k i : ℕ) (b : Batch) (y : List Version) (slots : List (ℕ × Slot)) → n ≡ SHARDS → Acts me.0.seat
      → me.0.seat.turn ≡ Some k → me.0.seat.held ≡ Some i → get_elem? me.0.history i ≡ some b → me.1 ≡ (k, Some y) ∷ slots
      → Gains me.0.taken (piece_in k b) y
      → Allows (Linked o) n id me (k + TURNS_FROM) (λ _. 0) (λ _. TellsApplied (step n (k + TURNS_FROM) 0 0 none) me 0)
  gives_applied n id me k i b y slots eight acts hand holds there carried gains s r wide at _ =
      let c : RingState = r.core in let v : View = me.0 in let ok = r.each_view id v at in let back : k ≡ k + TURNS_FROM - TURNS_FROM = omega arith in
      let done : ℕ → List ℕ = updated c.done k (i ∷ c.done k) in let pair : Pair = record { batch = i; shard = k } in
      let has_hand : (c.seats id).turn ≡ Some k = ap (λ (d : SeatState). d.turn) ok.seat ∙ hand in
      let near = ((r.sound.each_seat id).held i (ap (λ (d : SeatState). d.held) ok.seat ∙ holds)).0 in
      let sound : IsSoundRing (core_after c id (seat_after v.seat None (pair ∷ v.seat.knows)) (updated c.turn k 0) done) =
      subst (λ (d : SeatState). IsSoundRing (core_after c id (seat_after d None (pair ∷ d.knows)) (updated c.turn k 0) done)) ok.seat
      (applying numbers touches c r.sound id k i (subst Acts (sym ok.seat) acts) has_hand near) in
      let has = subst (λ (l : List ℕ). HasVersions o.shards.value c.batches l k y) (sym (put_here c.done k (i ∷ c.done k)))
      (gains_piece o.shards.value c.batches (c.done k) k v.taken y i b (at_prefix v.history c.batches ok.known i b there) gains (ok.turn k hand)) in (
        applied_view v i k,
        gives,
        tt,
        subst (λ (l : List (ℕ × Slot)). Linked o record {
          words = set s.words (k + TURNS_FROM) 0;
          homes = put_back s.homes l;
          views = set s.views id (applied_view v i k);
        }) (sym carried)
            (ends_turn s r id k v y (pair ∷ v.seat.knows) (k ∷ v.pieces) done (wide ∙ eight) at has_hand sound
            (put_else c.done k (i ∷ c.done k)) (one_more_done c.done v.seat.held k i holds) (applied_pieces c v k i ok.pieces holds)
            (λ e. let z : Some i ≡ None = sym holds ∙ e in cc) has),
        (refl, λ j e. let z : i ≡ j = cc in λ q. applied_view v (z q) (back q)),
      )

-- the slot that was taken is out
pub taken_slot : (k q : ℕ) (x : List Version) (slots before : List (ℕ × Slot)) → q ≡ k → slots ≡ (q, Some x) ∷ before
    → slots ≡ (k, Some x) ∷ rest slots
taken_slot k q x slots before e is = let there : before ≡ rest slots = ap rest (sym is) in is ∙ (λ i. (e i, Some x) ∷ there i)
