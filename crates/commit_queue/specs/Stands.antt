-- What holds of each kind of seat between two calls, of its view and of the numbers that it keeps for the code (docs/formats/ring.md, "The ring").
use Rattle.std.specs.Prelude.{◌≡◌, ℕ, suc, ◌<◌, ◌≤◌, List, [], ◌∷◌, length, Option, Some, None, true, false}
use Rattle.batch_repr.specs.declared.limits.TheConstants.{BATCHES_MAX}
use Rattle.memtable_shards.specs.declared.sharding.TheConstants.{SHARDS}
use Rattle.publish_core.specs.declared.seat.Claim.TheVariants.{Free}
use Rattle.publish_core.specs.declared.seat.Kind.TheVariants.{Note, Producer, Worker}
use Rattle.publish_core.specs.declared.state.TheConstants.{END_LIMIT}
use Rattle.publish_core.specs.Machine.{ends}
use Rattle.commit_queue.specs.declared.view.View.{View}
use Rattle.commit_queue.specs.Rule.{Slot, numbers}
use Rattle.commit_queue.specs.Tells.{Seated}

-- The batch that the seat holds, if any, has this index and this end.
abbrev pub HasTicket : View → ℕ → ℕ → Type 0
HasTicket v index end = (i : ℕ) → v.seat.held ≡ Some i
    → (i ≡ index) × (suc i ≤ length v.history) × (end ≡ ends numbers v.base v.history (suc i)) × (end < END_LIMIT)

-- The batch that the producer's seat holds, if any, is the last one and has this end.
abbrev pub HoldsLast : View → ℕ → Type 0
HoldsLast v end = (i : ℕ) → v.seat.held ≡ Some i
    → (suc i ≡ length v.history) × (end ≡ ends numbers v.base v.history (suc i)) × (end < END_LIMIT)

-- the slot that is out with a seat: that of the shard of its turn, which is empty meanwhile
abbrev pub slots_out : Option ℕ → List (ℕ × Slot)
slots_out None = []
slots_out (Some k) = (k, None) ∷ []

-- The seat has its turn, if any, on this shard, and carries its slot alone.
pub record CarriesTurn (me : Seated) (turn : Option ℕ) : Type 0 where
  pub turn_is : me.0.seat.turn ≡ turn
  pub within : (k : ℕ) → turn ≡ Some k → k < SHARDS
  pub carries : me.1 ≡ slots_out turn

-- what holds of the producer's seat
pub record ProducerStands (id : ℕ) (me : Seated) (head end : ℕ) (turn : Option ℕ) : Type 0 where
  pub id_is : id ≡ 0
  pub kind : me.0.seat.kind ≡ Producer
  pub head_is : me.0.head ≡ head
  pub calm : me.0.absorbed ≡ []
  pub free : me.0.seat.claim ≡ Free
  pub carries : CarriesTurn me turn
  pub admitted : me.0.head ≤ length me.0.history
  pub few : length me.0.history ≤ BATCHES_MAX
  pub within : me.0.seat.published ≤ length me.0.history
  pub holds : HoldsLast me.0 end

-- what holds of a session's seat
pub record SessionStands (me : Seated) (index end : ℕ) (turn : Option ℕ) : Type 0 where
  pub kind : me.0.seat.kind ≡ Worker
  pub calm : me.0.absorbed ≡ []
  pub free : me.0.seat.claim ≡ Free
  pub carries : CarriesTurn me turn
  pub not_retired : me.0.acked_known.retired ≡ None
  pub within : me.0.seat.published ≤ length me.0.history
  pub ticket : HasTicket me.0 index end

-- what holds of a note: it always has a batch
pub record NoteStands (me : Seated) (index end : ℕ) : Type 0 where
  pub kind : me.0.seat.kind ≡ Note
  pub carries : me.1 ≡ []
  pub calm : me.0.absorbed ≡ []
  pub not_flush : me.0.acked_known.is_flush ≡ false
  pub holds : me.0.seat.held ≡ Some index
  pub ticket : HasTicket me.0 index end

-- what holds of the flush seat
pub record FlushStands (me : Seated) : Type 0 where
  pub kind : me.0.seat.kind ≡ Worker
  pub carries : me.1 ≡ []
  pub calm : me.0.absorbed ≡ []
  pub free : me.0.seat.claim ≡ Free
  pub no_turn : me.0.seat.turn ≡ None
  pub is_flush : me.0.acked_known.is_flush ≡ true
  pub idle : me.0.seat.held ≡ None
  pub within : me.0.seat.published ≤ length me.0.history
