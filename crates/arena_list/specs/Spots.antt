-- What stands beside the spot of a key and a number, which may hold no version (docs/formats/ring.md, "The shards").
use Rattle.std.specs.Prelude.{◌≡◌, ◌⊎◌, ℕ, List, Option, Some, None, Contains}
use Rattle.arena_list.specs.Versions.{KeyVersion, GoesBefore, Precedes}

-- The version is the last one that goes before a key and a number.
pub record IsLastOf (versions : List KeyVersion) (key : List ℕ) (number : ℕ) (version : KeyVersion) : Type 0 where
  pub stands : Contains versions version
  pub before : GoesBefore version key number
  pub last : (other : KeyVersion) → Contains versions other → GoesBefore other key number → (other ≡ version) ⊎ Precedes other version

-- It is the last version that goes before a key and a number, and none exactly where no version does.
abbrev pub IsLastBefore : List KeyVersion → List ℕ → ℕ → Option KeyVersion → Type 0
IsLastBefore versions key number None = (other : KeyVersion) → Contains versions other → GoesBefore other key number → ⊥
IsLastBefore versions key number (Some version) = IsLastOf versions key number version

-- The version is the first one that does not go before a key and a number.
pub record IsFirstOf (versions : List KeyVersion) (key : List ℕ) (number : ℕ) (version : KeyVersion) : Type 0 where
  pub stands : Contains versions version
  pub late : GoesBefore version key number → ⊥
  pub first : (other : KeyVersion) → Contains versions other → (GoesBefore other key number → ⊥) → (other ≡ version) ⊎ Precedes version other

-- It is the first version that does not go before a key and a number, and none exactly where all versions do.
abbrev pub IsFirstFrom : List KeyVersion → List ℕ → ℕ → Option KeyVersion → Type 0
IsFirstFrom versions key number None = (other : KeyVersion) → Contains versions other → GoesBefore other key number
IsFirstFrom versions key number (Some version) = IsFirstOf versions key number version
