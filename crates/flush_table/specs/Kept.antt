-- What a stop leaves of a run over a store (docs/formats/table.md, "The store").
use Rattle.std.specs.Prelude.{ℕ, ◌≤◌, List, ◌++◌, length, take, Option}
use Rattle.crc_chunk.specs.Chunk.{IsChunkOf}
use Rattle.batch_repr.specs.declared.batch.Batch.{Batch}
use Rattle.disk_face.specs.View.{Files, Dirs}
use Rattle.disk_face.specs.Image.{IsImage, IsChanceFree}
use Rattle.wal_recovery.specs.declared.reports.Mode.TheVariants.{Strict}
use Rattle.flush_table.specs.Stores.{Used, StoreOf}

-- The store of the directories is the base followed by a prefix of the records, with all that are acked.
abbrev pub HasStoreWith : Option Used → List Batch → List Batch → ℕ → Dirs → Type 0
HasStoreWith used base records acked dirs =
    (count : ℕ) × (acked ≤ count) × (count ≤ length records) × StoreOf Strict dirs used (base ++ take count records)

-- It is so in each image that no torn chunk deceives.
abbrev pub KeepsStore : Option Used → List Batch → List Batch → ℕ → Files → Type 0
KeepsStore used base records acked now =
    (dirs : Dirs) → IsImage now dirs → IsChanceFree IsChunkOf now dirs → HasStoreWith used base records acked dirs
