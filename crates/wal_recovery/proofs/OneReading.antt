-- A segment reads as one list of records, and bytes spell one batch.
use Rattle.std.proofs.Common.{◌≡◌, ℕ, List}
use Rattle.batch_repr.specs.declared.batch.Batch.{Batch}
use Rattle.batch_repr.specs.Spelling.{SpellsBatch}
use Rattle.batch_repr.proofs.Laws.{spelled_reads, same_batch}
pub use Rattle.block_record.proofs.Laws.{one_read}

-- Bytes spell one batch.
pub one_spelled : (bytes : List ℕ) (b c : Batch) → SpellsBatch bytes b → SpellsBatch bytes c → b ≡ c
one_spelled bytes b c h k = same_batch bytes b c (spelled_reads bytes b h) (spelled_reads bytes c k)
