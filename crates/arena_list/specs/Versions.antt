-- The versions of keys, and the order of a walk: by key ascending and, within a key, by number descending (docs/formats/ring.md, "The shards").
use Rattle.std.specs.Prelude.{◌≡◌, ◌⊎◌, ◌↔◌, ℕ, List, [], ◌∷◌, ◌++◌, Option, Contains, option_map, ⊤}
use Rattle.std.specs.declared.cmp.Ordering.{Ordering}
use Rattle.std.specs.declared.cmp.Ordering.TheVariants.{Less}
use Rattle.std.specs.Ordering.{nat_cmp, ordering_then}
use Rattle.std.specs.Cmp.Lexicographic.{slice_cmp}
use Rattle.arena_list.specs.declared.version.Version.{Version as Shown}

-- what a key was left with by a number: a value, or none
pub record KeyVersion : Type 0 where
  pub key : List ℕ
  pub number : ℕ
  pub value : Option (List ℕ)

-- a version, by its parts
abbrev pub version_with : List ℕ → ℕ → Option (List ℕ) → KeyVersion
version_with key number value = record { key = key; number = number; value = value }

-- the version that a walk shows
abbrev pub version_shown : Shown → KeyVersion
version_shown shown = record { key = shown.key.now; number = shown.seq; value = option_map (λ bytes. bytes.now) shown.value }

-- the version that is handed over: its key, its number and its value
abbrev pub version_taken : List ℕ × ℕ × Option (List ℕ) → KeyVersion
version_taken taken = record { key = taken.0; number = taken.1; value = taken.2 }

-- how a key and a number stand to others: the keys' byte order decides, and then the greater number is first
abbrev pub spot_order : List ℕ → ℕ → List ℕ → ℕ → Ordering
spot_order key number other_key other_number = ordering_then (slice_cmp nat_cmp key other_key) (nat_cmp other_number number)

-- The version goes before that of a key and a number.
abbrev pub GoesBefore : KeyVersion → List ℕ → ℕ → Type 0
GoesBefore version key number = spot_order version.key version.number key number ≡ Less

-- One version goes before another one.
abbrev pub Precedes : KeyVersion → KeyVersion → Type 0
Precedes one other = GoesBefore one other.key other.number

-- Each version goes before those after it.
unfoldable pub AscendVersions : List KeyVersion → Type 0
AscendVersions [] = ⊤
AscendVersions (version ∷ versions) = ((later : KeyVersion) → Contains versions later → Precedes version later) × AscendVersions versions

-- The version has this key and this number.
abbrev pub IsAt : KeyVersion → List ℕ → ℕ → Type 0
IsAt version key number = (version.key ≡ key) × (version.number ≡ number)

-- One of the versions has this key and this number.
abbrev pub HoldsVersion : List KeyVersion → List ℕ → ℕ → Type 0
HoldsVersion versions key number = (version : KeyVersion) × Contains versions version × IsAt version key number

-- There is one version more.
abbrev pub Adds : List KeyVersion → KeyVersion → List KeyVersion → Type 0
Adds old version new = (other : KeyVersion) → Contains new other ↔ (Contains old other ⊎ (other ≡ version))

-- All versions are there but the one with this key and this number.
abbrev pub LeavesOut : List KeyVersion → List ℕ → ℕ → List KeyVersion → Type 0
LeavesOut old key number new = (other : KeyVersion) → Contains new other ↔ (Contains old other × (IsAt other key number → ⊥))

-- Each of the versions is one of the others.
abbrev pub AreSomeOf : List KeyVersion → List KeyVersion → Type 0
AreSomeOf versions others = (version : KeyVersion) → Contains versions version → Contains others version

-- These are the last of the versions, from the first one on that does not go before that of a key and a number.
pub record IsRestFrom (versions : List KeyVersion) (key : List ℕ) (number : ℕ) (rest : List KeyVersion) : Type 0 where
  pub front : List KeyVersion
  pub is : versions ≡ front ++ rest
  pub before : (version : KeyVersion) → Contains front version → GoesBefore version key number
  pub from : (version : KeyVersion) → Contains rest version → GoesBefore version key number → ⊥
