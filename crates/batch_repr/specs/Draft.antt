-- What builders and batches keep of their bytes. Nothing of it is seen from outside.
use Rattle.std.specs.Prelude.{◌≡◌, ℕ, ◌+◌, ◌<◌, ◌≤◌, List, ◌++◌, length, All, replicate}
use Rattle.wal_base.specs.declared.entry.Entry.{Entry}
use Rattle.batch_repr.specs.declared.batch.Batch.{Batch}
use Rattle.batch_repr.specs.declared.limits.TheConstants.{BATCH_MAX, NUMBER_MAX}
use Rattle.batch_repr.specs.Batches.{count_of}
use Rattle.batch_repr.specs.Limits.{IsWithinLimits}
use Rattle.batch_repr.specs.Written.{written, written_entries}

-- The bytes are those of the entries, after a header that is not written yet.
pub record IsDraft (bytes : List ℕ) (entries : List Entry) : Type 0 where
  pub spelled : bytes ≡ replicate 12 0 ++ written_entries entries
  pub limits : All IsWithinLimits entries
  pub size : length bytes ≤ BATCH_MAX

-- The draft takes so many numbers, at least one.
pub record IsCountedDraft (bytes : List ℕ) (entries : List Entry) (count : ℕ) : Type 0 where
  pub is_draft : IsDraft bytes entries
  pub count_is : count ≡ count_of entries
  pub some : 0 < count

-- The bytes are the written batch, which takes so many numbers.
pub record IsWritten (bytes : List ℕ) (batch : Batch) (count : ℕ) : Type 0 where
  pub written_is : bytes ≡ written batch
  pub count_is : count ≡ count_of batch.entries
  pub some : 0 < count
  pub numbers : batch.first + count ≤ NUMBER_MAX
  pub limits : All IsWithinLimits batch.entries
  pub size : length bytes ≤ BATCH_MAX
