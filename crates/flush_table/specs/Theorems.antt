-- Laws of the store, each as one statement (docs/formats/table.md, "The store").
use Rattle.std.specs.Prelude.{◌≡◌, List, Option}
use Rattle.batch_repr.specs.declared.batch.Batch.{Batch}
use Rattle.disk_face.specs.View.{Dirs}
use Rattle.wal_recovery.specs.declared.reports.Mode.{Mode}
use Rattle.flush_table.specs.Stores.{Used, IsUsed, StoreOf}

-- Directories have one used table at most.
abbrev pub DirectoriesUseOneTable : Type 0
DirectoriesUseOneTable = (dirs : Dirs) (one other : Option Used) → IsUsed dirs one → IsUsed dirs other → one ≡ other

-- And so they have one store at most, in each mode.
abbrev pub DirectoriesHaveOneStore : Type 0
DirectoriesHaveOneStore =
    (mode : Mode) (dirs : Dirs) (one other : Option Used) (batches others : List Batch) → StoreOf mode dirs one batches → StoreOf mode dirs other others
    → (one ≡ other) × (batches ≡ others)
