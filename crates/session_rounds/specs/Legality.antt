-- Which of the batches are answered synced (docs/formats/program.md, "Which replies are legal").
use Rattle.std.specs.Prelude.{◌≡◌, ℕ, ◌<◌, true, List, Some, Contains, slice_get}
use Rattle.batch_repr.specs.declared.batch.Batch.{Batch}
use Rattle.session_replies.specs.declared.replies.Said.TheVariants.{Committed}
use Rattle.session_replies.specs.Legal.{Replied}

-- Each batch that is answered synced is among the first ones, so many.
abbrev pub SyncedAreAmong : List Batch → ℕ → List Replied → Type 0
SyncedAreAmong batches acked replies = (reply : Replied) (first count : ℕ) → Contains replies reply → reply.said ≡ Committed first count true
    → (index : ℕ) × (batch : Batch) × (slice_get batches index ≡ Some batch) × (batch.first ≡ first) × (index < acked)
