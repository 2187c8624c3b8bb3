-- Entries that are read to the end of a list, and batches that stand in one list of entries (docs/formats/log.md, "Reading a batch").
use Rattle.std.specs.Prelude.{◌≡◌, ℕ, ◌≤◌, List, [], ◌∷◌, ◌++◌, slice_range}
use Rattle.wal_base.specs.declared.entry.Entry.{Entry}
use Rattle.batch_repr.specs.declared.batch.Batch.{Batch}
use Rattle.batch_repr.specs.declared.reader.Head.{Head}
use Rattle.batch_repr.specs.Reading.{Splits, ReadsAs}
use Rattle.batch_repr.specs.Spelling.{SpellsBatch}

-- The entries that the bytes have before a rest were added.
pub record AddsEntries (bytes : List ℕ) (old new : List Entry) (rest : List ℕ) : Type 0 where
  pub read : List Entry
  pub added : new ≡ old ++ read
  pub splits : Splits bytes read rest

-- The entries of the batch that the bytes read as were added, and this is its first number.
pub record AddsBatch (bytes : List ℕ) (old new : List Entry) (first : ℕ) : Type 0 where
  pub read : List Entry
  pub added : new ≡ old ++ read
  pub reads : ReadsAs bytes (record { first = first; entries = read })

-- The batch that the bytes spell was added.
pub record AddsSpelled (bytes : List ℕ) (old new : List Batch) : Type 0 where
  pub batch : Batch
  pub spelled : SpellsBatch bytes batch
  pub added : new ≡ old ++ batch ∷ []

-- The batch that the bytes read as was added.
pub record AddsRead (bytes : List ℕ) (old new : List Batch) : Type 0 where
  pub batch : Batch
  pub reads : ReadsAs bytes batch
  pub added : new ≡ old ++ batch ∷ []

-- the batches with these heads, of which the first begins at this place of a block, and each other where the one before it ends
abbrev pub batches_over : ℕ → List Head → List Entry → List Batch
batches_over from [] block = []
batches_over from (head ∷ heads) block =
    record { first = head.first; entries = slice_range block from head.end } ∷ batches_over head.end heads block

-- The heads divide a block from this place on up to its end.
abbrev pub Divide : ℕ → List Head → ℕ → Type 0
Divide from [] end = from ≡ end
Divide from (head ∷ heads) end = (from ≤ head.end) × Divide head.end heads end
