-- The versions of a table's shards: those of its opening, and those of the batches that were applied since (docs/formats/ring.md, "The shards of the table").
use Rattle.std.specs.Prelude.{◌≡◌, ◌⊎◌, ◌↔◌, ℕ, ◌<◌, List, take, Some, Contains, slice_get, IsTrue}
use mathlib.Core.Option.{some}
use lib.ListN.{get_elem?}
use Rattle.batch_repr.specs.declared.batch.Batch.{Batch}
use Rattle.memtable_shards.specs.Versions.{Version}
use Rattle.memtable_shards.specs.Versions.{versions_in, of_shard, piece_in, touches, HaveOtherNumbers}
use Rattle.publish_core.specs.Machine.{Among}

-- No version of the shards is numbered this or above.
abbrev pub NumberedBelow : ℕ → List (List Version) → Type 0
NumberedBelow base shards = (shard : List Version) (version : Version) → Contains shards shard → Contains shard version → version.number < base

-- The version is one that a batch left in the shard k, and this batch is among those applied there.
abbrev pub IsApplied : List Batch → List ℕ → ℕ → Version → Type 0
IsApplied batches done k version = (i : ℕ) × (batch : Batch)
    × Among i done × (get_elem? batches i ≡ some batch) × Contains (piece_in k batch) version

-- The versions are those that the shard k had at the opening and those of the batches that are applied there.
abbrev pub HasVersions : List (List Version) → List Batch → List ℕ → ℕ → List Version → Type 0
HasVersions opening batches done k versions = (first : List Version) × (slice_get opening k ≡ Some first)
    × ((version : Version) → Contains versions version ↔ (Contains first version ⊎ IsApplied batches done k version))

-- Each of the first n batches that leaves a version in the shard k is among those applied there.
abbrev pub AreApplied : List Batch → ℕ → List ℕ → ℕ → Type 0
AreApplied batches n done k = (i : ℕ) (batch : Batch) → i < n → get_elem? batches i ≡ some batch → IsTrue (touches batch k) → Among i done

-- Below this end the versions are just those of the opening and of the first n batches, in the shard k.
abbrev pub ShowsBelow : List (List Version) → List Batch → ℕ → ℕ → ℕ → List Version → Type 0
ShowsBelow opening batches n end k versions = (first : List Version) × (slice_get opening k ≡ Some first)
    × ((version : Version) → version.number < end
    → Contains versions version ↔ (Contains first version ⊎ Contains (of_shard k (versions_in (take n batches))) version))

-- No version has a number of this batch's piece for the shard k.
abbrev pub LacksPiece : Batch → ℕ → List Version → Type 0
LacksPiece batch k versions = HaveOtherNumbers versions (piece_in k batch)
