-- What the parts of a pipeline are, and the sessions of a new one (docs/formats/ring.md, "What a pipeline holds").
use Rattle.std.specs.Prelude.{◌≡◌, ℕ, ◌≤◌, List, [], ◌∷◌, ◌++◌, All, length}
use Rattle.atomic_table.specs.Seated.{TableId}
use Rattle.record_flow.specs.Passes.{FlowId}
use Rattle.batch_repr.specs.declared.batch.Batch.{Batch}
use Rattle.batch_repr.specs.declared.limits.TheConstants.{NUMBER_MAX, SESSIONS_MAX}
use Rattle.batch_repr.specs.Batches.{IsContiguous, end_after}
use Rattle.memtable_shards.specs.Versions.{Version}
use Rattle.memtable_shards.specs.Versions.{AreShardsOf}
use Rattle.commit_queue.specs.declared.pipe_table.PipeTable.{PipeTable}
use Rattle.commit_queue.specs.declared.seats.FlushSeat.{FlushSeat}
use Rattle.commit_queue.specs.declared.seats.ProducerSeat.{ProducerSeat}
use Rattle.commit_queue.specs.declared.seats.SessionSeat.{SessionSeat}
use Rattle.commit_queue.specs.Seats.{IsNewProducer, IsNewFlush, AreNewSessions, session_table, session_view}
use Rattle.commit_queue.specs.Shown.{new_session_view}
use Rattle.commit_pipeline.specs.Openings.{EndsBefore, Opening}
use Rattle.commit_pipeline.specs.declared.standing.Standing.{Standing}
use Rattle.commit_pipeline.specs.Standings.{new_standing}

-- the parts of a pipeline: the batches before its journal's, the number after them, how many sessions, the table, the queue, and the
-- names of both ledgers
pub record PartsView : Type 0 where
  pub base : List Batch
  pub next : ℕ
  pub sessions : ℕ
  pub table : TableId
  pub queue : FlowId
  pub batches : ℕ
  pub answers : ℕ

-- The parts of a pipeline over this base, with so many sessions.
pub record ArePartsOf (base : List Batch) (next sessions : ℕ) (parts : PartsView) : Type 0 where
  pub base_is : parts.base ≡ base
  pub next_is : parts.next ≡ next
  pub sessions_are : parts.sessions ≡ sessions

-- So many sessions that have seen nothing.
pub record AreNew (count : ℕ) (ss : List Standing) : Type 0 where
  pub all : length ss ≡ count
  pub each : All (λ (s : Standing). s ≡ new_standing) ss

-- ---- inside

-- They are the shards of some batches in a row, after which this number comes.
pub record HaveReached (next : ℕ) (shards : List (List Version)) : Type 0 where
  pub start : ℕ
  pub batches : List Batch
  pub contiguous : IsContiguous start batches
  pub ends : end_after start batches ≡ next
  pub are : AreShardsOf shards batches

-- The shards have a batch more.
abbrev pub GainBatch : Batch → List (List Version) → List (List Version) → Type 0
GainBatch batch old new = (batches : List Batch) → AreShardsOf old batches → AreShardsOf new (batches ++ batch ∷ [])

-- The seats are new ones of the table, over shards that have the versions of the base.
pub record FitTogether (base : List Batch) (next sessions : ℕ) (table : PipeTable) (producer : ProducerSeat) (flush : FlushSeat)
    (seats : List SessionSeat) : Type 0 where
  pub shards : List (List Version)
  pub of_base : AreShardsOf shards base
  pub base_is : EndsBefore base next
  pub within : next ≤ NUMBER_MAX
  pub few : sessions ≤ SESSIONS_MAX
  pub producer_is : IsNewProducer table next shards producer
  pub flush_is : IsNewFlush table next shards flush
  pub seats_are : AreNewSessions table next shards sessions seats

-- The seat is a new session's, of this table, over these shards.
abbrev pub IsNewSeatOf : TableId → ℕ → List (List Version) → SessionSeat → Type 0
IsNewSeatOf table next shards seat = (session_table seat ≡ table) × (session_view seat ≡ new_session_view next shards)

-- They are new sessions' seats, over the versions of the opening's base.
pub record AreSeatsOf (table : TableId) (opening : Opening) (seats : List SessionSeat) : Type 0 where
  pub shards : List (List Version)
  pub of_base : AreShardsOf shards opening.base
  pub ends : EndsBefore opening.base opening.start.state.next
  pub each : All (IsNewSeatOf table opening.start.state.next shards) seats
