-- What holds of every state that can be reached (docs/formats/ring.md, "What holds of a ring").
use Rattle.std.specs.Prelude.{◌≡◌, ◌≢◌, ◌⊎◌, ℕ, suc, ◌+◌, ◌*◌, ◌%◌, ◌<◌, ◌≤◌, Bool, IsTrue, length, Some, None}
use mathlib.Core.Option.{some}
use lib.ListN.{get_elem?}
use Rattle.publish_core.specs.declared.seat.Claim.TheVariants.{Free, Taken, Emptied}
use Rattle.publish_core.specs.declared.seat.Kind.TheVariants.{Producer, Note}
use Rattle.publish_core.specs.declared.seat.Stage.{Stage}
use Rattle.publish_core.specs.declared.seat.Stage.TheVariants.{Held, Marked, Claimed, Cleared, Out}
use Rattle.publish_core.specs.declared.seat.Ends.{Ends}
use Rattle.publish_core.specs.declared.seat.Reading.{Reading}
use Rattle.publish_core.specs.declared.seat.Pair.{Pair}
use Rattle.publish_core.specs.declared.seat.SeatState.{SeatState}
use Rattle.publish_core.specs.declared.state.TheConstants.{SLOTS, SHARDS}
use Rattle.publish_core.specs.Machine.{Among, Distinct, CoreState, end_of, nobody}

-- its ring word still stands
abbrev pub Full : Stage → Type 0
Full (Held j) = Unit {0}
Full Marked = Unit {0}
Full (Claimed j) = Unit {0}
Full _ = ⊥

-- it is marked
abbrev pub Past : Stage → Type 0
Past (Held j) = ⊥
Past _ = Unit {0}

-- the lowest bit of its word: whether it is marked
abbrev pub bit : Stage → ℕ
bit (Held j) = 0
bit _ = 1

module _ {B : Type 0} (count : B → ℕ) (touches : B → ℕ → Bool) (s : CoreState B) where
  -- the batch is applied in each shard where it has entries
  abbrev pub AllDone : ℕ → Type 0
  AllDone i = (b : B) (k : ℕ) → get_elem? s.batches i ≡ some b → IsTrue (touches b k) → Among i (s.done k)

  -- what the stage of the batch i tells of the ends, of its seat and of its shards
  abbrev pub InStage : ℕ → Stage → Type 0
  InStage i (Held j) = (s.tail ≤ i) × ((s.seats j).held ≡ Some i)
  InStage i Marked = (s.tail ≤ i) × (i < s.head) × AllDone i
  InStage i (Claimed j) = (i < s.tail) × ((s.seats j).claim ≡ Taken i) × AllDone i
  InStage i (Cleared j) = (i < s.tail) × ((s.seats j).claim ≡ Emptied i) × AllDone i
  InStage i Out = (i < s.tail) × AllDone i

  -- it belongs to one seat, which holds it or has marked it
  abbrev pub Owned : ℕ → Stage → Type 0
  Owned i (Held j) = s.owner i ≡ j
  Owned i _ = Among i (s.seats (s.owner i)).own

  -- what holds of the batch i: its stage, its word in the ring, and the seat that it belongs to
  pub record BatchOk (i : ℕ) : Type 0 where
    pub stands : InStage i (s.stage i)
    pub word : Full (s.stage i)
        → (s.ring (i % SLOTS) ≡ 2 * end_of count s i + bit (s.stage i))
        × (length s.batches ≤ i + SLOTS)
    pub owned : Owned i (s.stage i)

  -- what the loaded ends and the word then read in the front's slot tell of the front
  abbrev pub Front : Ends → Reading → Type 0
  Front e w = (e.tail < s.tail) ⊎ ((s.stage e.tail ≡ Marked) × (w.word ≡ 2 * end_of count s e.tail + 1))

  -- what holds of the seat j, whose state is d
  pub record SeatOk (j : ℕ) (d : SeatState) : Type 0 where
    pub held : (i : ℕ)
        → d.held ≡ Some i
        → (i < length s.batches) × (s.stage i ≡ Held j) × (i < d.seen) × (s.owner i ≡ j)
    pub admitted : (i : ℕ) → j ≢ 0 → d.held ≡ Some i → i < s.head
    pub taken : (i : ℕ) → d.claim ≡ Taken i → (i < length s.batches) × (s.stage i ≡ Claimed j)
    pub emptied : (i : ℕ) → d.claim ≡ Emptied i → (i < length s.batches) × (s.stage i ≡ Cleared j)
    pub seen : d.seen ≤ length s.batches
    pub published : (d.published ≤ s.published) × (d.published ≤ d.seen)
    pub acked : d.acked ≤ s.acked
    pub loaded : (e : Ends) → d.loaded ≡ Some e → (e.head ≤ s.head) × (e.tail ≤ s.tail)
    pub front : (e : Ends) (w : Reading)
        → d.loaded ≡ Some e
        → d.reading ≡ Some w
        → e.tail < e.head
        → w.at ≡ e.tail % SLOTS
        → w.word % 2 ≡ 1
        → Front e w
    pub vacant : (w : Reading) → j ≡ 0 → d.reading ≡ Some w → w.word ≡ 0 → s.ring w.at ≡ 0
    pub knows : (p : Pair) → Among p d.knows → Among p.batch (s.done p.shard)
    pub turn : (k : ℕ) → d.turn ≡ Some k → (k < SHARDS) × (s.turn k ≡ suc j)
    pub owns : (i : ℕ) → Among i d.own → (i < d.seen) × (s.owner i ≡ j) × Past (s.stage i)
    pub distinct : Distinct d.own
    pub note : d.kind ≡ Note → (d.turn ≡ None) × (d.claim ≡ Free)

  -- the ends are in order, at most SLOTS batches are in the ring,
  -- and each batch, slot, turn and seat is in order
  pub record Sound : Type 0 where
    pub tail_head : s.tail ≤ s.head
    pub head_length : s.head ≤ length s.batches
    pub length_head : length s.batches ≤ s.head + 1
    pub room : length s.batches ≤ s.tail + SLOTS
    pub published_tail : s.published ≤ s.tail
    pub acked_head : s.acked ≤ s.head
    pub counted : (i : ℕ) (b : B) → get_elem? s.batches i ≡ some b → 0 < count b
    pub known : (i k : ℕ) → Among i (s.done k) → i < length s.batches
    pub each_batch : (i : ℕ) → i < length s.batches → BatchOk i
    pub each_slot : (k : ℕ)
        → k < SLOTS
        → (s.ring k ≡ 0)
        ⊎ ((i : ℕ) × (i < length s.batches) × (i % SLOTS ≡ k) × Full (s.stage i))
    pub each_turn : (k j : ℕ) → s.turn k ≡ suc j → (k < SHARDS) × ((s.seats j).turn ≡ Some k)
    pub each_seat : (j : ℕ) → SeatOk j (s.seats j)
    pub producer : (s.seats 0).kind ≡ Producer
    pub unmade : (j : ℕ) → s.made ≤ j → s.seats j ≡ nobody
