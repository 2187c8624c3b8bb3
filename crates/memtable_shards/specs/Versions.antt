-- The versions that batches leave, and the shards that hold them (docs/formats/ring.md, "The shards").
use Rattle.std.specs.Prelude.{◌≡◌, ◌≢◌, ◌⊎◌, ℕ, ◌+◌, ◌<◌, ◌==◌, nat_lt, ◌%◌, Bool, false, cond, List, [], ◌∷◌, length, Some, None, Contains, IsTrue, filter, slice_get, ◌↔◌}
use Rattle.std.specs.List.{flat_map, sum}
use Rattle.wal_base.specs.declared.entry.Entry.{Entry}
use Rattle.wal_base.specs.declared.entry.Entry.TheVariants.{Set, Delete, Note, RangeDelete}
use Rattle.batch_repr.specs.declared.batch.Batch.{Batch}
use Rattle.batch_repr.specs.Batches.{is_counted}
use Rattle.memtable_shards.specs.declared.sharding.TheConstants.{SHARDS}
use Rattle.arena_list.specs.Versions.{KeyVersion, AscendVersions}
pub use Rattle.batch_repr.specs.Versions.{Version, versions_of, versions_in}
unfoldable pub use Rattle.batch_repr.specs.Versions.{versions_from}

-- the shard of a key: the sum of its bytes modulo 8
abbrev pub shard_of : List ℕ → ℕ
shard_of key = sum key % SHARDS

-- An entry belongs to a shard: a Set or a Delete to that of its key, and a RangeDelete to each.
abbrev pub is_in : ℕ → Entry → Bool
is_in shard (Set key value) = shard_of key == shard
is_in shard (Delete key) = shard_of key == shard
is_in shard (Note bytes) = false
is_in shard (RangeDelete start end) = nat_lt shard SHARDS

-- The version belongs to the shard.
abbrev pub IsIn : Version → ℕ → Type 0
IsIn version shard = IsTrue (is_in shard version.entry)

-- those of the versions that belong to the shard
abbrev pub of_shard : ℕ → List Version → List Version
of_shard shard versions = filter (λ (version : Version). is_in shard version.entry) versions

-- the versions that a batch leaves in the shard
abbrev pub piece_in : ℕ → Batch → List Version
piece_in shard batch = of_shard shard (versions_of batch)

-- the batch leaves a version in the shard
abbrev pub touches : Batch → ℕ → Bool
touches batch shard = nat_lt 0 (length (piece_in shard batch))

-- A shard with these versions more. The order of the versions says nothing.
abbrev pub Gains : List Version → List Version → List Version → Type 0
Gains old more new = (version : Version) → Contains new version ↔ (Contains old version ⊎ Contains more version)

-- They are the same versions, in another order maybe.
abbrev pub HasSameVersions : List Version → List Version → Type 0
HasSameVersions old new = (version : Version) → Contains new version ↔ Contains old version

-- the version of a key that an entry leaves under a number, if it is about one key, in front of others
abbrev pub key_version_in_front : Entry → ℕ → List KeyVersion → List KeyVersion
key_version_in_front (Set key value) number versions = record { key = key; number = number; value = Some value } ∷ versions
key_version_in_front (Delete key) number versions = record { key = key; number = number; value = None } ∷ versions
key_version_in_front (Note bytes) number versions = versions
key_version_in_front (RangeDelete start end) number versions = versions

-- those of the versions that are about one key
abbrev pub key_versions : List Version → List KeyVersion
key_versions [] = []
key_versions (version ∷ versions) = key_version_in_front version.entry version.number (key_versions versions)

-- No version that is about one key waits in the shard.
abbrev pub IsSettled : List Version → Type 0
IsSettled shard = AscendVersions (key_versions shard)

-- No version of the one has the number of a version of the other.
abbrev pub HaveOtherNumbers : List Version → List Version → Type 0
HaveOtherNumbers ones others = (one other : Version) → Contains ones one → Contains others other → one.number ≢ other.number

-- Of the versions numbered below the limit these are just the ones that the batches left in the shard.
abbrev pub HaveBelow : ℕ → List Batch → ℕ → List Version → Type 0
HaveBelow limit batches shard versions = (version : Version) → version.number < limit
    → Contains versions version ↔ (Contains (versions_in batches) version × IsIn version shard)

-- Eight shards have the versions of the batches, each those that belong to it.
pub record AreShardsOf (shards : List (List Version)) (batches : List Batch) : Type 0 where
  pub eight : length shards ≡ SHARDS
  pub own : (index : ℕ) (shard : List Version) → slice_get shards index ≡ Some shard → (version : Version)
      → Contains shard version ↔ (Contains (versions_in batches) version × IsIn version index)
