-- Versions that are linked, and not in the index yet. Nothing of it is seen from outside.
use Rattle.std.specs.Prelude.{◌≡◌, ◌≢◌, ℕ, ◌+◌, ◌<◌, ◌≤◌, ◌↔◌, ◌⊎◌, None, List, [], ◌∷◌, ◌++◌, length, Option, Some, Contains, map, slice_get, MatchOption, ⊤}
use Rattle.wal_base.specs.declared.entry.Entry.{Entry}
use Rattle.wal_base.specs.declared.entry.Entry.TheVariants.{Set, Delete, RangeDelete}
use Rattle.batch_repr.specs.declared.limits.TheConstants.{NUMBER_MAX}
use Rattle.batch_repr.specs.Batches.{count_of}
use Rattle.memtable_shards.specs.declared.sharding.TheConstants.{SHARDS}
use Rattle.arena_list.specs.Versions.{KeyVersion}
use Rattle.memtable_shards.specs.Versions.{Version}
use Rattle.range_cover.specs.declared.mark.RangeMark.{RangeMark}
use Rattle.memtable_shards.specs.declared.waiting.Change.{Change}
use Rattle.memtable_shards.specs.declared.waiting.Change.TheVariants.{Key, Range}
use Rattle.memtable_shards.specs.Versions.{versions_from, of_shard, HaveOtherNumbers}

-- the entry that left a key with a value, or with none
abbrev pub key_entry : List ℕ → Option (List ℕ) → Entry
key_entry key None = Delete key
key_entry key (Some value) = Set key value

-- the entry of a version that waits
abbrev pub entry_of : Change → Entry
entry_of (Key key value) = key_entry key value
entry_of (Range start end) = RangeDelete start end

-- a version of a key, as the index holds it
abbrev pub of_key : KeyVersion → Version
of_key version = record { entry = key_entry version.key version.value; number = version.number }

-- a version of a range
abbrev pub of_range : RangeMark → Version
of_range mark = record { entry = RangeDelete mark.start mark.end; number = mark.number }

-- what stands in the index and beside it
abbrev pub settled_in : List KeyVersion → List RangeMark → List Version
settled_in index ranges = map of_key index ++ map of_range ranges

-- No version has this number.
abbrev pub LacksNumber : List Version → ℕ → Type 0
LacksNumber versions number = (version : Version) → Contains versions version → version.number ≢ number

-- There is one version more.
abbrev pub HasOneMore : List Version → Version → List Version → Type 0
HasOneMore old version new = (other : Version) → Contains new other ↔ (Contains old other ⊎ (other ≡ version))

-- versions whose numbers were counted from this one on
abbrev pub counted_from : ℕ → List Version → List Version
counted_from first versions = map (λ (version : Version). record { entry = version.entry; number = first + version.number }) versions

-- Each number is one that a batch may have.
abbrev pub HaveNumbers : List Version → Type 0
HaveNumbers versions = (version : Version) → Contains versions version → version.number < NUMBER_MAX

-- No two of the versions have one number.
unfoldable pub HaveOwnNumbers : List Version → Type 0
HaveOwnNumbers [] = ⊤
HaveOwnNumbers (version ∷ versions) = ((other : Version) → Contains versions other → other.number ≢ version.number) × HaveOwnNumbers versions

-- Versions may wait: all have numbers of their own, so that there are not too many of them.
pub record MayWait (waiting : List Version) : Type 0 where
  pub numbers : HaveNumbers waiting
  pub apart : HaveOwnNumbers waiting

-- What a shard keeps: versions that wait, and whose numbers no settled version has.
pub record IsShard (settled waiting : List Version) : Type 0 where
  pub ready : MayWait waiting
  pub apart : HaveOtherNumbers settled waiting

-- Each of the lists has the versions of the shard at its place.
abbrev pub AreByShard : List Version → List (List Version) → Type 0
AreByShard versions lists = (shard : ℕ) (list : List Version) → slice_get lists shard ≡ Some list → list ≡ of_shard shard versions

-- One version more stands at the end of the list of each shard that it belongs to.
abbrev pub AddsByShard : Version → List (List Version) → List (List Version) → Type 0
AddsByShard version old new = (versions : List Version) → AreByShard versions old → AreByShard (versions ++ version ∷ []) new

-- One version more stands at the end of each of the first lists, up to a place.
abbrev pub AddsToFirst : Version → ℕ → List (List Version) → List (List Version) → Type 0
AddsToFirst version end old new = (shard : ℕ) (list : List Version) → slice_get new shard ≡ Some list
    → (was : List Version) × (slice_get old shard ≡ Some was) × (shard < end → list ≡ was ++ version ∷ []) × (end ≤ shard → list ≡ was)

-- The lists between two places are empty.
abbrev pub AreEmptyBetween : List (List Version) → ℕ → ℕ → Type 0
AreEmptyBetween lists from end = (shard : ℕ) (list : List Version) → from ≤ shard → shard < end → slice_get lists shard ≡ Some list → list ≡ []

-- The shard is the first one from there on whose list is not empty.
pub record IsFirstWithAny (lists : List (List Version)) (from shard : ℕ) : Type 0 where
  pub on : from ≤ shard
  pub within : shard < SHARDS
  pub before : AreEmptyBetween lists from shard
  pub some : (list : List Version) → slice_get lists shard ≡ Some list → list ≢ []

-- The lists from there on have the versions of the entries, and the numbers that these have, if any, are within the limit.
pub record AreCut (entries : List Entry) (first : Option ℕ) (from : ℕ) (lists : List (List Version)) : Type 0 where
  pub eight : length lists ≡ SHARDS
  pub left : (shard : ℕ) (list : List Version) → from ≤ shard → slice_get lists shard ≡ Some list → list ≡ of_shard shard (versions_from 0 entries)
  pub within : MatchOption first ⊤ (λ number. number + count_of entries ≤ NUMBER_MAX)
