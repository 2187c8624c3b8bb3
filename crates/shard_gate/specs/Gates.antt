-- What applying a piece and reading a key ask and tell (docs/formats/ring.md, "The shards of the table").
use Rattle.std.specs.Prelude.{◌≡◌, ℕ, ◌<◌, List, ◌∷◌, Option, Some, IsTrue, Contains}
use mathlib.Core.Option.{some}
use lib.ListN.{get_elem?}
use Rattle.atomic_table.specs.Seated.{TableId}
use Rattle.batch_repr.specs.declared.batch.Batch.{Batch}
use Rattle.memtable_shards.specs.Versions.{Version}
use Rattle.memtable_shards.specs.Newest.{Found, FindsNewest, value_found}
use Rattle.memtable_shards.specs.Pieces.{PiecesLeft}
use Rattle.memtable_shards.specs.Versions.{piece_in, shard_of, touches}
use Rattle.commit_queue.specs.declared.view.View.{View}
use Rattle.commit_queue.specs.Calls.{IsAppliedAll}
use Rattle.commit_queue.specs.Tables.{table_id_of}
use Rattle.commit_queue.specs.Tells.{TakesShard}
use Rattle.commit_queue.specs.Views.{applied_view, busy_view, given_view, taking_view}
use Rattle.commit_queue.specs.Shown.{end_of_first}
use Rattle.shard_gate.specs.declared.gate.ShardGate.{ShardGate}
use Rattle.shard_gate.specs.declared.reading.ReadBusy.{ReadBusy}
use Rattle.shard_gate.specs.declared.reading.ReadBusy.TheVariants.{Busy, NoMemory}

-- the table whose shards a gate leads to
abbrev pub gate_table : ShardGate → TableId
gate_table gate = table_id_of gate.table.now

-- ---- applying

-- The piece is that of the batch that the seat holds, for a shard where it is not applied.
pub record HoldsPiece (v : View) (shard : ℕ) (piece : List Version) : Type 0 where
  pub index : ℕ
  pub batch : Batch
  pub holds : v.seat.held ≡ Some index
  pub at : get_elem? v.history index ≡ some batch
  pub own : piece ≡ piece_in shard batch
  pub has_piece : IsTrue (touches batch shard)
  pub new : Contains v.pieces shard → ⊥

-- The shard was taken, and given back with the piece of the batch that the seat holds.
abbrev pub AppliesPiece : View → ℕ → View → Type 0
AppliesPiece v shard v' = (index : ℕ) → v.seat.held ≡ Some index
    → (versions : List Version) × (v' ≡ applied_view (taking_view v shard versions) index shard)

-- What the seat has seen, what it holds and what is its own stay as they were.
pub record OnlyApplies (v v' : View) : Type 0 where
  pub kind : v'.seat.kind ≡ v.seat.kind
  pub held : v'.seat.held ≡ v.seat.held
  pub own : v'.seat.own ≡ v.seat.own
  pub published : v'.seat.published ≡ v.seat.published
  pub acked : v'.seat.acked ≡ v.seat.acked
  pub claim : v'.seat.claim ≡ v.seat.claim
  pub turn : v'.seat.turn ≡ v.seat.turn
  pub base : v'.base ≡ v.base
  pub opening : v'.opening ≡ v.opening
  pub head : v'.head ≡ v.head
  pub history : v'.history ≡ v.history
  pub absorbed : v'.absorbed ≡ v.absorbed
  pub acked_known : v'.acked_known ≡ v.acked_known

-- The piece for the shard is applied, and nothing else.
abbrev pub AppliesOne : View → ℕ → View → Type 0
AppliesOne v shard v' = OnlyApplies v v' × (v'.pieces ≡ shard ∷ v.pieces)

-- These are pieces of the batch that the seat holds, and it is applied in just the shards before the next piece's where it
-- leaves a version.
pub record IsAmidPieces (v : View) (pieces : PiecesLeft) : Type 0 where
  pub index : ℕ
  pub batch : Batch
  pub holds : v.seat.held ≡ Some index
  pub at : get_elem? v.history index ≡ some batch
  pub entries : pieces.entries ≡ batch.entries
  pub first : pieces.first ≡ Some batch.first
  pub below : (k : ℕ) → Contains v.pieces k → k < pieces.from
  pub done : (k : ℕ) → k < pieces.from → IsTrue (touches batch k) → Contains v.pieces k

-- The batch that the seat holds is applied in each shard where it leaves a version.
abbrev pub AppliesAll : View → View → Type 0
AppliesAll v v' = OnlyApplies v v' × ((index : ℕ) → v.seat.held ≡ Some index → IsAppliedAll v' index)

-- ---- reading

-- the greatest visible number that the seat has seen
abbrev pub visible_seen : View → ℕ
visible_seen v = end_of_first v.base v.history v.seat.published

-- The value is that of the newest version of the key below the number, among the versions of its shard as it was taken.
pub record ReadsNewest (v : View) (key : List ℕ) (below : ℕ) (value : Option (List ℕ)) (v' : View) : Type 0 where
  pub versions : List Version
  pub taken : TakesShard v (shard_of key) versions (taking_view v (shard_of key) versions)
  pub found : Found
  pub finds : FindsNewest versions key below found
  pub value_is : value ≡ value_found found
  pub view : v' ≡ given_view (taking_view v (shard_of key) versions)

-- Nothing was read: the shard was found taken, or it was given back as it was taken.
abbrev pub LeavesRead : ReadBusy → View → ℕ → View → Type 0
LeavesRead Busy v shard v' = v' ≡ busy_view v
LeavesRead NoMemory v shard v' = (versions : List Version) × (v' ≡ given_view (taking_view v shard versions))
