-- The newest version of a key below a number (docs/formats/ring.md, "The shards").
use Rattle.std.specs.Prelude.{◌≡◌, ℕ, ◌<◌, ◌≤◌, List, Option, Some, None, Contains}
use Rattle.arena_list.specs.declared.found.Found.{Found}
use Rattle.arena_list.specs.declared.found.Found.TheVariants.{Nothing, Gone, Value}
use Rattle.arena_list.specs.Versions.{KeyVersion}

-- The version is the newest one of its key below this number.
pub record IsNewestOfKey (versions : List KeyVersion) (below : ℕ) (version : KeyVersion) : Type 0 where
  pub stands : Contains versions version
  pub under : version.number < below
  pub last : (other : KeyVersion) → Contains versions other → other.key ≡ version.key → other.number < below → other.number ≤ version.number

-- No version of the key is below this number.
abbrev pub HasNoneOfKey : List KeyVersion → List ℕ → ℕ → Type 0
HasNoneOfKey versions key below = (other : KeyVersion) → Contains versions other → other.key ≡ key → below ≤ other.number

-- It is the newest version of the key below this number, if there is one.
abbrev pub IsNewestOf : List KeyVersion → List ℕ → ℕ → Option KeyVersion → Type 0
IsNewestOf versions key below None = HasNoneOfKey versions key below
IsNewestOf versions key below (Some version) = IsNewestOfKey versions below version × (version.key ≡ key)

-- the version of a key that an answer tells
abbrev pub version_found : List ℕ → Found → Option KeyVersion
version_found key Nothing = None
version_found key (Gone seq) = Some (record { key = key; number = seq; value = None })
version_found key (Value seq bytes) = Some (record { key = key; number = seq; value = Some bytes.now })

-- The answer tells the newest version of the key below this number, and nothing exactly where there is none.
abbrev pub FindsNewestOfKey : List KeyVersion → List ℕ → ℕ → Found → Type 0
FindsNewestOfKey versions key below found = IsNewestOf versions key below (version_found key found)
