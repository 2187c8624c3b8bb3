-- What an event does not touch stays sound.
use Rattle.std.proofs.Common.{◌≡◌, ◌≢◌, ◌⊎◌, ℕ, suc, ◌+◌, ◌*◌, ◌%◌, ◌<◌, ◌≤◌, Bool, length, Some, sym, refl, ap, ◌∙◌, subst, ap₂, inl, inr, ⊎_elim, le_refl, le_trans, arith}
use lib.ListN.{get_elem?}
use Rattle.publish_core.specs.declared.seat.Kind.TheVariants.{Producer}
use Rattle.publish_core.specs.declared.seat.Claim.TheVariants.{Taken, Emptied}
use Rattle.publish_core.specs.declared.seat.Stage.{Stage}
use Rattle.publish_core.specs.declared.seat.Stage.TheVariants.{Held, Marked, Claimed, Cleared, Out}
use Rattle.publish_core.specs.declared.seat.Ends.{Ends}
use Rattle.publish_core.specs.declared.seat.Reading.{Reading}
use Rattle.publish_core.specs.declared.seat.SeatState.{SeatState}
use Rattle.publish_core.specs.declared.state.TheConstants.{SLOTS}
use Rattle.publish_core.specs.Machine.{updated, Among, CoreState, end_of, nobody}
use Rattle.publish_core.proofs.Put.{put_else, at_put}
use Rattle.publish_core.specs.Sound.{Full, Past, bit, AllDone, InStage, Owned, BatchOk, Front, SeatOk, Sound}

module _ {B : Type 0} (count : B → ℕ) (touches : B → ℕ → Bool) (s : CoreState B) where
  -- a later state, and what every event of the seats me and you keeps of what the other seats know
  pub record Evolves (me you : ℕ) : Type 0 where
    pub to : CoreState B
    pub longer : length s.batches ≤ length to.batches
    pub same_batch : (i : ℕ) → i < length s.batches → get_elem? to.batches i ≡ get_elem? s.batches i
    pub same_end : (i : ℕ) → i < length s.batches → end_of count to i ≡ end_of count s i
    pub head : s.head ≤ to.head
    pub tail : s.tail ≤ to.tail
    pub published : s.published ≤ to.published
    pub acked : s.acked ≤ to.acked
    pub done : (i k : ℕ) → Among i (s.done k) → Among i (to.done k)
    pub held : (i j : ℕ) → j ≢ me → j ≢ you → i < length s.batches → s.stage i ≡ Held j → to.stage i ≡ Held j
    pub claimed : (i j : ℕ) → j ≢ me → j ≢ you → i < length s.batches → s.stage i ≡ Claimed j → to.stage i ≡ Claimed j
    pub cleared : (i j : ℕ) → j ≢ me → j ≢ you → i < length s.batches → s.stage i ≡ Cleared j → to.stage i ≡ Cleared j
    pub marked : (i : ℕ) → i < length s.batches → s.stage i ≡ Marked → (to.stage i ≡ Marked) ⊎ (i < to.tail)
    pub past : (i : ℕ) → i < length s.batches → Past (s.stage i) → Past (to.stage i)
    pub turn : (k j : ℕ) → j ≢ me → j ≢ you → s.turn k ≡ suc j → to.turn k ≡ suc j
    pub vacant : 0 ≢ me → (k : ℕ) → s.ring k ≡ 0 → to.ring k ≡ 0
    pub owner : (i j : ℕ) → j ≢ me → j ≢ you → i < length s.batches → s.owner i ≡ j → to.owner i ≡ j

  -- A step that leaves all as it was. One that changes only some of it is this record with those parts given anew
  abbrev pub still : (me you : ℕ) → Evolves me you
  still me you = record {
    to = s;
    longer = le_refl (length s.batches);
    same_batch = λ i l. refl;
    same_end = λ i l. refl;
    head = le_refl s.head;
    tail = le_refl s.tail;
    published = le_refl s.published;
    acked = le_refl s.acked;
    done = λ i k a. a;
    held = λ i j _ _ _ e. e;
    claimed = λ i j _ _ _ e. e;
    cleared = λ i j _ _ _ e. e;
    marked = λ i _ e. inl e;
    past = λ i _ f. f;
    turn = λ k j _ _ e. e;
    vacant = λ _ k e. e;
    owner = λ i j _ _ _ e. e;
  }

module _ {B : Type 0} {count : B → ℕ} {touches : B → ℕ → Bool} {s : CoreState B} {me you : ℕ} (ev : Evolves count touches s me you)
    (sound : Sound count touches s) where
  pub front_stays : (e : Ends) (w : Reading) → e.tail < length s.batches → Front count touches s e w → Front count touches ev.to e w
  front_stays e w l f = ⊎_elim (λ a. inl (le_trans a ev.tail)) (λ (a : (s.stage e.tail ≡ Marked) × (w.word ≡ 2 * end_of count s e.tail + 1)).
      ⊎_elim (λ m. inr (m, a.1 ∙ ap (λ n. 2 * n + 1) (sym (ev.same_end e.tail l)))) (λ m. inl m) (ev.marked e.tail l a.0)) f

  -- another seat
  pub seat_stays : (j : ℕ) (d : SeatState) → j ≢ me → j ≢ you → SeatOk count touches s j d → SeatOk count touches ev.to j d
  seat_stays j d m y ok = let longer = ev.longer in let published = ev.published in let hl = sound.head_length in record {
    held = λ i e. let h = ok.held i e in (le_trans h.0 longer, ev.held i j m y h.0 h.1, h.2, ev.owner i j m y h.0 h.3);
    admitted = λ i n e. le_trans (ok.admitted i n e) ev.head;
    taken = λ i e. let h = ok.taken i e in (le_trans h.0 longer, ev.claimed i j m y h.0 h.1);
    emptied = λ i e. let h = ok.emptied i e in (le_trans h.0 longer, ev.cleared i j m y h.0 h.1);
    seen = le_trans ok.seen longer;
    published = (le_trans ok.published.0 published, ok.published.1);
    acked = le_trans ok.acked ev.acked;
    loaded = λ e is. let l = ok.loaded e is in (le_trans l.0 ev.head, le_trans l.1 ev.tail);
    front = λ e w a b lt at odd. let l : e.head ≤ s.head = (ok.loaded e a).0 in
        front_stays e w (let g : e.tail < length s.batches = omega arith in g) (ok.front e w a b lt at odd);
    vacant = λ w z e o. ev.vacant (λ q. m (z ∙ q)) w.at (ok.vacant w z e o);
    knows = λ p a. ev.done p.batch p.shard (ok.knows p a);
    turn = λ k e. let t = ok.turn k e in (t.0, ev.turn k j m y t.1);
    owns = λ i a. let o = ok.owns i a in let l = le_trans o.0 ok.seen in (o.0, ev.owner i j m y l o.1, ev.past i l o.2);
    distinct = ok.distinct;
    note = ok.note;
  }

  pub done_stays : (i : ℕ) → i < length s.batches → AllDone count touches s i → AllDone count touches ev.to i
  done_stays i l h b k at has = ev.done i k (h b k (sym (ev.same_batch i l) ∙ at) has)

  -- what an event does to the seats, as the batches see them
  pub record Keeps : Type 0 where
    pub held : (i j : ℕ) → i < length s.batches → s.stage i ≡ Held j → ev.to.stage i ≡ Held j → (s.seats j).held ≡ Some i → (ev.to.seats j).held ≡ Some i
    pub taken : (i j : ℕ) → i < length s.batches → s.stage i ≡ Claimed j → ev.to.stage i ≡ Claimed j → (s.seats j).claim ≡ Taken i
        → (ev.to.seats j).claim ≡ Taken i
    pub emptied : (i j : ℕ) → i < length s.batches → s.stage i ≡ Cleared j → ev.to.stage i ≡ Cleared j → (s.seats j).claim ≡ Emptied i
        → (ev.to.seats j).claim ≡ Emptied i

  stands_stays : Keeps → (i : ℕ) → i < length s.batches → (s.tail ≤ i → ev.to.tail ≤ i) → (st : Stage) → s.stage i ≡ st → ev.to.stage i ≡ st
      → InStage count touches s i st → InStage count touches ev.to i st
  stands_stays keeps i l tl (Held j) a b h = (tl h.0, keeps.held i j l a b h.1)
  stands_stays keeps i l tl Marked a b h = (tl h.0, le_trans h.1 ev.head, done_stays i l h.2)
  stands_stays keeps i l tl (Claimed j) a b h = (le_trans h.0 ev.tail, keeps.taken i j l a b h.1, done_stays i l h.2)
  stands_stays keeps i l tl (Cleared j) a b h = (le_trans h.0 ev.tail, keeps.emptied i j l a b h.1, done_stays i l h.2)
  stands_stays keeps i l tl Out a b h = (le_trans h.0 ev.tail, done_stays i l h.1)

  pub owned_stays : (i : ℕ) → ev.to.owner i ≡ s.owner i → (Among i (s.seats (s.owner i)).own → Among i (ev.to.seats (s.owner i)).own) → (st : Stage)
      → Owned count touches s i st → Owned count touches ev.to i st
  owned_stays i same own (Held j) o = same ∙ o
  owned_stays i same own Marked o = subst (λ (k : ℕ). Among i (ev.to.seats k).own) (sym same) (own o)
  owned_stays i same own (Claimed j) o = subst (λ (k : ℕ). Among i (ev.to.seats k).own) (sym same) (own o)
  owned_stays i same own (Cleared j) o = subst (λ (k : ℕ). Among i (ev.to.seats k).own) (sym same) (own o)
  owned_stays i same own Out o = subst (λ (k : ℕ). Among i (ev.to.seats k).own) (sym same) (own o)

  -- a batch whose stage and word stay
  pub batch_stays : Keeps → (i : ℕ) → i < length s.batches → (s.tail ≤ i → ev.to.tail ≤ i) → ev.to.stage i ≡ s.stage i
      → (Full (s.stage i) → ev.to.ring (i % SLOTS) ≡ s.ring (i % SLOTS)) → (Full (s.stage i) → length ev.to.batches ≤ i + SLOTS)
      → Owned count touches ev.to i (s.stage i) → BatchOk count touches s i → BatchOk count touches ev.to i
  batch_stays keeps i l tl same ring wide own ok = record {
    stands = subst (InStage count touches ev.to i) (sym same) (stands_stays keeps i l tl (s.stage i) refl same ok.stands);
    word = λ f. let full : Full (s.stage i) = subst Full same f in let w = ok.word full in (
      ring full ∙ w.0 ∙ ap₂ (λ (n : ℕ) (st : Stage). 2 * n + bit st) (sym (ev.same_end i l)) (sym same),
      wide full,
    );
    owned = subst (Owned count touches ev.to i) (sym same) own;
  }

-- one seat has changed, and is d now
module _ {B : Type 0} {count : B → ℕ} {touches : B → ℕ → Bool} {s : CoreState B} {me : ℕ} (d : SeatState) (ev : Evolves count touches s me me)
    (sound : Sound count touches s) (is : ev.to.seats ≡ updated s.seats me d) where
  pub seats_all : SeatOk count touches ev.to me d → (j : ℕ) → SeatOk count touches ev.to j (ev.to.seats j)
  seats_all mine j = subst (λ (f : ℕ → SeatState). SeatOk count touches ev.to j (f j)) (sym is)
      (at_put (λ (k : ℕ) (x : SeatState). SeatOk count touches ev.to k x) s.seats me d j mine (λ n. seat_stays ev sound j (s.seats j) n n (sound.each_seat j)))

  pub keeps_all : d.held ≡ (s.seats me).held → d.claim ≡ (s.seats me).claim → Keeps ev sound
  keeps_all h c = record {
    held = λ i j l a b e. subst (λ (f : ℕ → SeatState). (f j).held ≡ Some i) (sym is)
        (at_put (λ (k : ℕ) (x : SeatState). (s.seats k).held ≡ Some i → x.held ≡ Some i) s.seats me d j (λ q. h ∙ q) (λ _ q. q) e);
    taken = λ i j l a b e. subst (λ (f : ℕ → SeatState). (f j).claim ≡ Taken i) (sym is)
        (at_put (λ (k : ℕ) (x : SeatState). (s.seats k).claim ≡ Taken i → x.claim ≡ Taken i) s.seats me d j (λ q. c ∙ q) (λ _ q. q) e);
    emptied = λ i j l a b e. subst (λ (f : ℕ → SeatState). (f j).claim ≡ Emptied i) (sym is)
        (at_put (λ (k : ℕ) (x : SeatState). (s.seats k).claim ≡ Emptied i → x.claim ≡ Emptied i) s.seats me d j (λ q. c ∙ q) (λ _ q. q) e);
  }

  pub own_all : ((i : ℕ) → Among i (s.seats me).own → Among i d.own) → (i j : ℕ) → Among i (s.seats j).own → Among i (ev.to.seats j).own
  own_all o i j a = subst (λ (f : ℕ → SeatState). Among i (f j).own) (sym is)
      (at_put (λ (k : ℕ) (x : SeatState). Among i (s.seats k).own → Among i x.own) s.seats me d j (o i) (λ _ q. q) a)

  pub turn_all : d.turn ≡ (s.seats me).turn → (k j : ℕ) → (s.seats j).turn ≡ Some k → (ev.to.seats j).turn ≡ Some k
  turn_all t k j e = subst (λ (f : ℕ → SeatState). (f j).turn ≡ Some k) (sym is)
      (at_put (λ (q : ℕ) (x : SeatState). (s.seats q).turn ≡ Some k → x.turn ≡ Some k) s.seats me d j (λ q. t ∙ q) (λ _ q. q) e)

  pub kind_all : d.kind ≡ (s.seats me).kind → (ev.to.seats 0).kind ≡ Producer
  kind_all t = subst (λ (f : ℕ → SeatState). (f 0).kind ≡ Producer) (sym is)
      (at_put (λ (q : ℕ) (x : SeatState). (s.seats q).kind ≡ Producer → x.kind ≡ Producer) s.seats me d 0 (λ q. t ∙ q) (λ _ q. q) sound.producer)

  pub unmade_all : me < s.made → (j : ℕ) → s.made ≤ j → ev.to.seats j ≡ nobody
  unmade_all m j le = ap (λ (f : ℕ → SeatState). f j) is ∙ put_else s.seats me d j (λ e. omega arith) ∙ sound.unmade j le
