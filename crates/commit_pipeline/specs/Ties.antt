-- What holds behind each of the two locks whenever it is free. Nothing of it is seen from outside.
use Rattle.std.specs.Prelude.{◌≡◌, ℕ, ◌≤◌, Bool, true, [], None, length}
use Rattle.std.specs.declared.sync.ledger.Share.{Share}
use Rattle.atomic_table.specs.Seated.{TableId}
use Rattle.record_flow.specs.Passes.{FlowId}
use Rattle.batch_repr.specs.declared.limits.TheConstants.{NUMBER_MAX, BATCHES_MAX}
use Rattle.batch_repr.specs.Batches.{end_after}
use Rattle.disk_face.specs.View.{DiskView}
use Rattle.failover_writer.specs.State.{State, len, acked}
use Rattle.failover_writer.specs.Outcome.{JournalOutcome}
use Rattle.memtable_shards.specs.Versions.{AreShardsOf}
use Rattle.record_flow.specs.declared.rule.FlowView.{FlowView}
use Rattle.record_flow.specs.Views.{records_of}
use Rattle.record_flow.specs.Flows.{next_to_send}
use Rattle.commit_queue.specs.declared.view.View.{View}
use Rattle.commit_queue.specs.Calls.{AwaitsBatch}
use Rattle.commit_pipeline.specs.Openings.{Opening, IsOpened}

-- Behind the commit lock: the producer's seat has placed so many batches, this number comes next, the book counts them, and each
-- was sent on its way to the journal.
pub record Enrols (table : TableId) (queue : FlowId) (opening : Opening) (seat : TableId) (v : View) (sends : FlowId) (flow : FlowView)
    (next placed counted : ℕ) : Type 0 where
  pub of_table : seat ≡ table
  pub base : v.base ≡ opening.start.state.next
  pub shards : AreShardsOf v.opening opening.base
  pub awaits : AwaitsBatch v next placed
  pub none : v.pieces ≡ []
  pub none_own : v.seat.own ≡ []
  pub within : next ≤ NUMBER_MAX
  pub few : placed ≤ BATCHES_MAX
  pub counts : counted ≡ placed
  pub of_queue : sends ≡ queue
  pub first : flow.first ≡ opening.start.state.next
  pub sent : records_of flow.sent ≡ v.history
  pub follows : next ≡ next_to_send flow

-- The journal's records are those that were taken: its next number comes after them.
pub record IsNextTo (flow : FlowView) (state : State) : Type 0 where
  pub first : flow.first ≡ state.base
  pub next : state.next ≡ end_after flow.first (records_of flow.taken)
  pub all : len state ≡ length flow.taken

-- Behind the flush lock: the journal holds since the opening the batches that were taken, the acked word was raised no further than
-- it has synced, and no answer has told of a death unless it is dead.
pub record Flushes (tells : Bool) (table : TableId) (queue : FlowId) (opening : Opening) (state : State) (v : DiskView) (seat : TableId) (f : View)
    (pops : FlowId) (flow : FlowView) (answers : ℕ) : Type 0 where
  pub opened : IsOpened tells opening
  pub keeps : JournalOutcome tells opening.start (records_of flow.taken) state v
  pub of_table : seat ≡ table
  pub is_flush : f.acked_known.is_flush ≡ true
  pub none_own : f.seat.own ≡ []
  pub raised : f.acked_known.raised ≤ acked state
  pub alive : state.dead ≡ None → answers ≡ 0
  pub of_queue : pops ≡ queue
  pub first : flow.first ≡ opening.start.state.next
  pub next_to : IsNextTo flow state

-- A share has no part, and stands for nothing.
abbrev pub IsSpare : ℕ → ℕ → Type 0
IsSpare parts amount = (parts ≡ 0) × (amount ≡ 0)

abbrev pub IsSpareShare : {L : Type 0} → Share L → Type 0
IsSpareShare share = IsSpare share.parts share.amount
