-- The newest version about a key, as an answer tells it (docs/formats/ring.md, "The shards").
use Rattle.std.specs.Prelude.{◌≡◌, ℕ, ◌<◌, ◌≤◌, List, ◌++◌, Option, Some, None, Contains, IsTrue, option_map}
pub use Rattle.arena_list.specs.declared.found.Found.{Found}
use Rattle.arena_list.specs.declared.found.Found.TheVariants.{Nothing, Gone, Value}
use Rattle.batch_repr.specs.Batches.{is_about, value_left}
use Rattle.memtable_shards.specs.Versions.{Version}

-- The version is about the key.
abbrev pub IsAbout : Version → List ℕ → Type 0
IsAbout version key = IsTrue (is_about key version.entry)

-- The version is the newest one about the key below this number.
pub record IsNewest (versions : List Version) (key : List ℕ) (below : ℕ) (version : Version) : Type 0 where
  pub stands : Contains versions version
  pub about : IsAbout version key
  pub under : version.number < below
  pub last : (other : Version) → Contains versions other → IsAbout other key → other.number < below → other.number ≤ version.number

-- No version about the key is below this number.
abbrev pub HasNoneBelow : List Version → List ℕ → ℕ → Type 0
HasNoneBelow versions key below = (other : Version) → Contains versions other → IsAbout other key → below ≤ other.number

-- what is told of a version: its number, and the value that it leaves the key with
pub record Told : Type 0 where
  pub number : ℕ
  pub value : Option (List ℕ)

-- what an answer tells
abbrev pub told : Found → Option Told
told Nothing = None
told (Gone seq) = Some (record { number = seq; value = None })
told (Value seq bytes) = Some (record { number = seq; value = Some bytes.now })

-- what is to be told of a version
abbrev pub told_of : Version → Told
told_of version = record { number = version.number; value = value_left version.entry }

-- The newest version about the key below this number is told, if there is one.
abbrev pub TellsNewest : List Version → List ℕ → ℕ → Option Told → Type 0
TellsNewest versions key below None = HasNoneBelow versions key below
TellsNewest versions key below (Some it) = (version : Version) × IsNewest versions key below version × (told_of version ≡ it)

-- The answer tells the newest version about the key below this number, and nothing exactly where there is none. A RangeDelete
-- is told as gone.
abbrev pub FindsNewest : List Version → List ℕ → ℕ → Found → Type 0
FindsNewest versions key below found = TellsNewest versions key below (told found)

-- the number that is told, if one is
abbrev pub number_told : Option Told → Option ℕ
number_told it = option_map (λ (it : Told). it.number) it

-- An answer tells the newer one of two, each of them the newest among some versions.
abbrev pub FindsNewerOf : Found → Found → Found → Type 0
FindsNewerOf one other found =
    (xs ys : List Version) (key : List ℕ) (below : ℕ) → FindsNewest xs key below one → FindsNewest ys key below other → FindsNewest (xs ++ ys) key below found

-- the value that an answer tells
abbrev pub value_found : Found → Option (List ℕ)
value_found Nothing = None
value_found (Gone seq) = None
value_found (Value seq bytes) = Some bytes.now
