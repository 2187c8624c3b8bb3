-- The commit ring as a pure machine: its states, its events, when each is possible and what it changes (docs/formats/ring.md, "The events of the ring").
use Rattle.std.specs.Prelude.{◌≡◌, ◌≢◌, ◌⊎◌, ℕ, zero, suc, ◌+◌, ◌*◌, ◌%◌, ◌<◌, ◌≤◌, min, max, Bool, true, false, cond, ◌==◌, nat_lt, IsTrue, IsFalse, List, [], ◌∷◌, ◌++◌, length, Option, Some, None}
use mathlib.Core.Option.{some}
use lib.ListN.{get_elem?}
use Rattle.batch_repr.specs.declared.limits.TheConstants.{BATCHES_MAX}
use Rattle.publish_core.specs.declared.seat.Kind.{Kind}
use Rattle.publish_core.specs.declared.seat.Kind.TheVariants.{Producer, Note, Worker, Spent}
use Rattle.publish_core.specs.declared.seat.Claim.{Claim}
use Rattle.publish_core.specs.declared.seat.Claim.TheVariants.{Free, Taken, Emptied}
use Rattle.publish_core.specs.declared.seat.Stage.{Stage}
use Rattle.publish_core.specs.declared.seat.Stage.TheVariants.{Held, Marked, Claimed, Cleared, Out}
use Rattle.publish_core.specs.declared.seat.Ends.{Ends}
use Rattle.publish_core.specs.declared.seat.Reading.{Reading}
use Rattle.publish_core.specs.declared.seat.Counts.{Counts}
use Rattle.publish_core.specs.declared.seat.SeatState.{SeatState}
use Rattle.publish_core.specs.declared.state.TheConstants.{SLOTS, SHARDS, END_LIMIT}

-- f, and x at i
abbrev pub updated : {A : Type 0} → (ℕ → A) → ℕ → A → ℕ → A
updated f i x j = cond (j == i) x (f j)

-- x stands in the list
abbrev pub Among : {A : Type 0} → A → List A → Type 0
Among x [] = ⊥
Among x (y ∷ ys) = (x ≡ y) ⊎ Among x ys

-- no element stands in the list twice
abbrev pub Distinct : {A : Type 0} → List A → Type 0
Distinct [] = Unit {0}
Distinct (x ∷ xs) = (Among x xs → ⊥) × Distinct xs

-- One state. A batch is of any type B
pub record CoreState (B : Type 0) : Type 0 where
  pub base : ℕ  -- the first number
  pub batches : List B
  pub head : ℕ
  pub tail : ℕ
  pub published : ℕ  -- so many batches are published
  pub acked : ℕ
  pub stage : ℕ → Stage  -- of each batch
  pub owner : ℕ → ℕ  -- the seat whose own each batch is
  pub done : ℕ → List ℕ  -- of each shard: the batches that are applied there
  pub ring : ℕ → ℕ
  pub turn : ℕ → ℕ  -- of each shard: 0, or 1 more than the seat that has the turn
  pub made : ℕ  -- so many seats were made
  pub seats : ℕ → SeatState

-- the counts of a seat that took no step
abbrev pub no_counts : Counts
no_counts = record { slots = 0; ends = 0; visibles = 0; ackeds = 0; lost = 0; busy = 0 }

-- a seat that is no more, or was not made yet
abbrev pub nobody : SeatState
nobody =
    record {
      kind = Spent;
      held = None;
      seen = 0;
      published = 0;
      acked = 0;
      loaded = None;
      reading = None;
      claim = Free;
      turn = None;
      knows = [];
      own = [];
      counts = no_counts;
    }

-- a count that stops at the greatest number of 64 bits
abbrev pub one_more : ℕ → ℕ
one_more n = min (n + 1) 18446744073709551615

-- it may step
abbrev pub Acts : SeatState → Type 0
Acts d = (d.kind ≡ Producer) ⊎ (d.kind ≡ Worker)

-- the machine's events, over batches of type B
pub data Event (B : Type 0) : Type 0 where
  load_slot : ℕ → ℕ → Event B
  place : B → Event B
  admit : Event B
  load_ends : ℕ → Event B
  mark : ℕ → Event B
  claim : ℕ → Event B
  empty_slot : ℕ → Event B
  raise_visible : ℕ → Event B
  load_visible : ℕ → Event B
  raise_acked : ℕ → Event B
  load_acked : ℕ → Event B
  split : ℕ → Bool → Event B
  join : ℕ → ℕ → Event B
  take_shard : ℕ → ℕ → Event B
  give_shard : ℕ → Bool → Event B

module _ {B : Type 0} (count : B → ℕ) where
  -- the end of the n-th batch of a row that begins at v
  abbrev pub ends : ℕ → List B → ℕ → ℕ
  ends v xs zero = v
  ends v [] (suc n) = v
  ends v (x ∷ xs) (suc n) = ends (v + count x) xs n

  -- the end of the batch i
  abbrev pub end_of : CoreState B → ℕ → ℕ
  end_of s i = ends s.base s.batches (suc i)

  -- the visible number: the end of the last published batch
  abbrev pub visible : CoreState B → ℕ
  visible s = ends s.base s.batches s.published

-- the batch that is claimed, or d
abbrev pub taken_or : ℕ → Claim → ℕ
taken_or d (Taken i) = i
taken_or d (Emptied i) = i
taken_or d _ = d

-- the batch that is held, or d
abbrev pub held_or : ℕ → Option ℕ → ℕ
held_or d (Some i) = i
held_or d None = d

-- a new seat of the kind k that has seen what d has seen
abbrev pub shown_seat : SeatState → Kind → Option ℕ → SeatState
shown_seat d k held =
    record {
      kind = k;
      held = held;
      seen = d.seen;
      published = d.published;
      acked = d.acked;
      loaded = None;
      reading = None;
      claim = Free;
      turn = None;
      knows = d.knows;
      own = [];
      counts = no_counts;
    }

-- what either of two seats holds, where not both do
abbrev pub both_held : Option ℕ → Option ℕ → Option ℕ
both_held None y = y
both_held (Some i) y = Some i

-- the seat d, once it has taken in the seat e
abbrev pub joined : SeatState → SeatState → SeatState
joined d e =
    record {
      kind = d.kind;
      held = both_held d.held e.held;
      seen = max d.seen e.seen;
      published = max d.published e.published;
      acked = max d.acked e.acked;
      loaded = None;
      reading = None;
      claim = d.claim;
      turn = d.turn;
      knows = d.knows ++ e.knows;
      own = d.own ++ e.own;
      counts = d.counts;
    }

-- a batch that the note holds is held by the seat that the note is joined into
abbrev pub renamed : ℕ → ℕ → Stage → Stage
renamed note into (Held j) = Held (cond (j == note) into j)
renamed note into st = st

-- the batch that the producer can hand over: held and admitted
abbrev pub handed : ℕ → Option ℕ → Bool → Option ℕ
handed head (Some i) true = cond (nat_lt i head) (Some i) None
handed head _ _ = None

-- the shard whose turn it is, or d
abbrev pub turn_or : ℕ → Option ℕ → ℕ
turn_or d (Some k) = k
turn_or d None = d

-- the seat claims nothing, and after its loads of the ends it read the slot of the front as marked
abbrev pub SawFront : SeatState → Type 0
SawFront d =
    (d.claim ≡ Free)
    × (e : Ends) × (w : Reading)
    × (d.loaded ≡ Some e)
    × (e.tail < e.head)
    × (d.reading ≡ Some w)
    × (w.at ≡ e.tail % SLOTS)
    × (w.word % 2 ≡ 1)

module _ {B : Type 0} (count : B → ℕ) (touches : B → ℕ → Bool) where
  -- the seat knows the batch to be applied in each shard where it has entries
  abbrev pub KnowsAll : CoreState B → SeatState → ℕ → Type 0
  KnowsAll s d i =
      (b : B) (k : ℕ)
      → get_elem? s.batches i ≡ some b
      → IsTrue (touches b k)
      → Among (record { batch = i; shard = k }) d.knows

  -- the seat holds a batch that has entries in the shard k, not applied there yet
  abbrev pub HoldsUnapplied : CoreState B → SeatState → ℕ → Type 0
  HoldsUnapplied s d k =
      (i : ℕ) × (b : B)
      × (d.held ≡ Some i)
      × (get_elem? s.batches i ≡ some b)
      × IsTrue (touches b k)
      × (Among i (s.done k) → ⊥)

  -- the event may be done in the state s
  abbrev pub Possible : CoreState B → Event B → Type 0
  Possible s (load_slot j at) = Acts (s.seats j) × (at < SLOTS)
  Possible s (place b) =
      (length s.batches ≡ s.head)
      × ((s.seats 0).kind ≡ Producer)
      × ((s.seats 0).held ≡ None)
      × ((s.seats 0).reading ≡ Some record { at = s.head % SLOTS; word = 0 })
      × (0 < count b)
      × (length s.batches < BATCHES_MAX)
      × (ends count s.base s.batches (length s.batches) + count b < END_LIMIT)
  Possible s admit = (length s.batches ≡ s.head + 1) × ((s.seats 0).kind ≡ Producer)
  Possible s (load_ends j) = Acts (s.seats j)
  Possible s (mark j) =
      Acts (s.seats j)
      × ((i : ℕ) × ((s.seats j).held ≡ Some i) × (i < s.head) × KnowsAll s (s.seats j) i)
  Possible s (claim j) = Acts (s.seats j) × SawFront (s.seats j)
  Possible s (empty_slot j) = Acts (s.seats j) × ((i : ℕ) × ((s.seats j).claim ≡ Taken i))
  Possible s (raise_visible j) = Acts (s.seats j) × ((i : ℕ) × ((s.seats j).claim ≡ Emptied i))
  Possible s (load_visible j) = Acts (s.seats j)
  Possible s (raise_acked n) = n ≤ s.head
  Possible s (load_acked j) = Acts (s.seats j)
  Possible s (split from note) =
      Acts (s.seats from)
      × (IsFalse note → (from ≡ 0) × ((s.seats 0).held ≡ None))
  Possible s (join into note) = let d = s.seats into in let e = s.seats note in
      ((into ≢ 0) × (d.kind ≡ Worker) × (e.kind ≡ Note) × ((d.held ≡ None) ⊎ (e.held ≡ None)))
      ⊎ ((into ≡ 0) × (e.kind ≡ Worker) × (e.held ≡ None) × (e.turn ≡ None) × (e.claim ≡ Free))
  Possible s (take_shard j k) = Acts (s.seats j) × (k < SHARDS) × ((s.seats j).turn ≡ None)
  Possible s (give_shard j apply) =
      Acts (s.seats j)
      × ((k : ℕ) × ((s.seats j).turn ≡ Some k) × (IsTrue apply → HoldsUnapplied s (s.seats j) k))

  -- the seat j has read the slot
  abbrev pub after_load_slot : CoreState B → ℕ → ℕ → CoreState B
  after_load_slot s j at = let d = s.seats j in
      record s {
        seats = updated s.seats j (record d {
          reading = Some record { at = at; word = s.ring at };
          counts = record d.counts { slots = one_more d.counts.slots };
        });
      }

  -- the producer's seat, once it has placed the batch i
  abbrev pub placed_seat : SeatState → ℕ → SeatState
  placed_seat d i = record d { held = Some i; reading = None; seen = suc i }

  -- the producer's seat has placed the batch b
  abbrev pub after_place : CoreState B → B → CoreState B
  after_place s b = let i = length s.batches in
      record s {
        batches = s.batches ++ b ∷ [];
        stage = updated s.stage i (Held 0);
        owner = updated s.owner i 0;
        ring = updated s.ring (s.head % SLOTS) (2 * (ends count s.base s.batches i + count b));
        seats = updated s.seats 0 (placed_seat (s.seats 0) i);
      }

  -- the batch that was placed is admitted
  abbrev pub after_admit : CoreState B → CoreState B
  after_admit s = record s { head = s.head + 1 }

  -- the seat j has loaded head and tail, and forgets the ring word
  abbrev pub after_load_ends : CoreState B → ℕ → CoreState B
  after_load_ends s j = let d = s.seats j in
      record s {
        seats = updated s.seats j (record d {
          loaded = Some record { head = s.head; tail = s.tail };
          reading = None;
          counts = record d.counts { ends = one_more d.counts.ends };
        });
      }

  -- the batch of the seat j is marked, and its word odd
  abbrev pub after_mark : CoreState B → ℕ → CoreState B
  after_mark s j = let d = s.seats j in let i = held_or 0 d.held in
      record s {
        stage = updated s.stage i Marked;
        ring = updated s.ring (i % SLOTS) (s.ring (i % SLOTS) + 1);
        seats = updated s.seats j (record d { held = None; own = i ∷ d.own });
      }

  -- the seat d, once it has taken the batch t from the front
  abbrev pub won : SeatState → ℕ → SeatState
  won d t = record d { loaded = None; reading = None; claim = Taken t; seen = max d.seen (suc t) }

  -- the seat d, once its claim found the ends h and t
  abbrev pub lost : SeatState → ℕ → ℕ → SeatState
  lost d h t =
      record d {
        loaded = Some record { head = h; tail = t };
        reading = None;
        counts = record d.counts { lost = one_more d.counts.lost };
      }

  -- the claim succeeds where the ends are still those that were loaded
  abbrev pub is_same_ends : Option Ends → ℕ → ℕ → Bool
  is_same_ends None h t = false
  is_same_ends (Some e) h t = cond (e.head == h) (e.tail == t) false

  -- the batch at the front is the seat j's to publish
  abbrev pub after_claim_won : CoreState B → ℕ → CoreState B
  after_claim_won s j =
      record s {
        tail = s.tail + 1;
        stage = updated s.stage s.tail (Claimed j);
        seats = updated s.seats j (won (s.seats j) s.tail);
      }

  -- no word has changed
  abbrev pub after_claim_lost : CoreState B → ℕ → CoreState B
  after_claim_lost s j = record s { seats = updated s.seats j (lost (s.seats j) s.head s.tail) }

  -- the claim is one exchange of the ends, which succeeds or not
  abbrev pub after_claim : CoreState B → ℕ → CoreState B
  after_claim s j =
      cond (is_same_ends (s.seats j).loaded s.head s.tail) (after_claim_won s j) (after_claim_lost s j)

  -- the slot of the batch that the seat j claims is empty
  abbrev pub after_empty : CoreState B → ℕ → CoreState B
  after_empty s j = let d = s.seats j in let t = taken_or 0 d.claim in
      record s {
        stage = updated s.stage t (Cleared j);
        ring = updated s.ring (t % SLOTS) 0;
        seats = updated s.seats j (record d { claim = Emptied t });
      }

  -- the batch that the seat j claims is published, with all before it
  abbrev pub after_raise : CoreState B → ℕ → CoreState B
  after_raise s j = let d = s.seats j in let t = taken_or 0 d.claim in let n = max s.published (suc t) in
      record s {
        stage = updated s.stage t Out;
        published = n;
        seats = updated s.seats j (record d { claim = Free; published = n; seen = max d.seen n });
      }

  -- the seat j has seen the published batches
  abbrev pub after_load_visible : CoreState B → ℕ → CoreState B
  after_load_visible s j = let d = s.seats j in
      record s {
        seats = updated s.seats j (record d {
          published = s.published;
          seen = max d.seen s.published;
          counts = record d.counts { visibles = one_more d.counts.visibles };
        });
      }

  -- the seat j has seen the acked number
  abbrev pub after_load_acked : CoreState B → ℕ → CoreState B
  after_load_acked s j = let d = s.seats j in
      record s {
        seats = updated s.seats j (record d {
          acked = s.acked;
          counts = record d.counts { ackeds = one_more d.counts.ackeds };
        });
      }

  -- a new seat of the kind k has seen what the seat from has seen
  abbrev pub after_tell : CoreState B → ℕ → Kind → CoreState B
  after_tell s from k =
      record s {
        made = s.made + 1;
        seats = updated s.seats s.made (shown_seat (s.seats from) k None);
      }

  -- a new note holds the batch i of the producer's seat
  abbrev pub after_hand : CoreState B → ℕ → CoreState B
  after_hand s i =
      record s {
        made = s.made + 1;
        stage = updated s.stage i (Held s.made);
        owner = updated s.owner i s.made;
        seats = updated (updated s.seats 0 (record (s.seats 0) { held = None })) s.made
            (shown_seat (s.seats 0) Note (Some i));
      }

  -- the note is handed a batch, or only told
  abbrev pub after_split : CoreState B → ℕ → Bool → Option ℕ → CoreState B
  after_split s from note (Some i) = after_hand s i
  after_split s from note None = after_tell s from (cond note Note Worker)

  -- all that the note has is the seat into's, and the note is spent
  abbrev pub after_join : CoreState B → ℕ → ℕ → CoreState B
  after_join s into note =
      record s {
        stage = λ i. renamed note into (s.stage i);
        owner = λ i. cond (s.owner i == note) into (s.owner i);
        seats = updated (updated s.seats into (joined (s.seats into) (s.seats note))) note nobody;
      }

  -- the seat j has the turn on the shard k
  abbrev pub after_take : CoreState B → ℕ → ℕ → CoreState B
  after_take s j k =
      record s {
        turn = updated s.turn k (suc j);
        seats = updated s.seats j (record (s.seats j) { turn = Some k });
      }

  -- the seat j found a shard taken
  abbrev pub after_busy : CoreState B → ℕ → CoreState B
  after_busy s j = let d = s.seats j in
      record s {
        seats = updated s.seats j (record d { counts = record d.counts { busy = one_more d.counts.busy } });
      }

  -- the seat j has ended its turn
  abbrev pub after_give : CoreState B → ℕ → CoreState B
  after_give s j = let d = s.seats j in
      record s {
        turn = updated s.turn (turn_or 0 d.turn) 0;
        seats = updated s.seats j (record d { turn = None });
      }

  -- the batch of the seat j is applied in the shard of its turn, which has ended
  abbrev pub after_apply : CoreState B → ℕ → CoreState B
  after_apply s j = let d = s.seats j in let k = turn_or 0 d.turn in let i = held_or 0 d.held in
      record s {
        turn = updated s.turn k 0;
        done = updated s.done k (i ∷ s.done k);
        seats = updated s.seats j (record d {
          turn = None;
          knows = record { batch = i; shard = k } ∷ d.knows;
        });
      }

  -- the state after the event, where that is possible
  abbrev pub after : CoreState B → Event B → CoreState B
  after s (split from note) =
      after_split s from note (cond (from == 0) (handed s.head (s.seats 0).held note) None)
  after s (join into note) = after_join s into note
  after s (take_shard j k) = cond (s.turn k == 0) (after_take s j k) (after_busy s j)
  after s (give_shard j apply) = cond apply (after_apply s j) (after_give s j)
  after s (load_slot j at) = after_load_slot s j at
  after s (place b) = after_place s b
  after s admit = after_admit s
  after s (load_ends j) = after_load_ends s j
  after s (mark j) = after_mark s j
  after s (claim j) = after_claim s j
  after s (empty_slot j) = after_empty s j
  after s (raise_visible j) = after_raise s j
  after s (load_visible j) = after_load_visible s j
  after s (raise_acked n) = record s { acked = max s.acked n }
  after s (load_acked j) = after_load_acked s j
