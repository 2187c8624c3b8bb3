-- Taking out, in one walk, the versions that no mark keeps. Nothing of it is seen from outside.
use Rattle.std.specs.Prelude.{◌≡◌, ◌≢◌, ◌⊎◌, ℕ, ◌+◌, ◌<◌, ◌≤◌, ◌&&◌, not, ltb, Bool, true, List, Option, Some, None, Contains, length, slice_index, ⊤}
use Rattle.arena_list.specs.declared.node.TheConstants.{LEVELS}
use Rattle.arena_list.specs.declared.node.Node.{Node}
use Rattle.arena_list.specs.declared.links.FreeList.{FreeList}
use Rattle.arena_list.specs.Versions.{KeyVersion}
use Rattle.arena_list.specs.Marks.{KeepsMarked}
use Rattle.arena_list.specs.Nodes.{node_at, version_at, next_on, places_on, versions_on, is_vacant, IsArena}

-- The mark is at most so high.
abbrev pub IsMarkUpTo : Option ℕ → ℕ → Type 0
IsMarkUpTo None mark = ⊤
IsMarkUpTo (Some most) mark = mark ≤ most

-- A mark is above the number, and at most so high.
abbrev pub IsBetween : List ℕ → ℕ → Option ℕ → Type 0
IsBetween marks number most = (mark : ℕ) × Contains marks mark × (number < mark) × IsMarkUpTo most mark

-- It is the number of a version where the next one has the same key, and none where it has another one.
abbrev pub IsNewerFor : KeyVersion → KeyVersion → Option ℕ → Type 0
IsNewerFor version next newer =
    ((next.key ≡ version.key) × (newer ≡ Some version.number)) ⊎ ((next.key ≡ version.key → ⊥) × (newer ≡ None))

-- The least number of this version's key among those that go before it, and none where there is none.
abbrev pub IsNextNewer : List KeyVersion → KeyVersion → Option ℕ → Type 0
IsNextNewer before version None = (other : KeyVersion) → Contains before other → other.key ≡ version.key → ⊥
IsNextNewer before version (Some number) =
    ((other : KeyVersion) × Contains before other × (other.key ≡ version.key) × (other.number ≡ number))
    × ((other : KeyVersion) → Contains before other → other.key ≡ version.key → number ≤ other.number)

-- So many levels high, the place is the last one now where it came next.
abbrev pub StepsOver : List Node → List ℕ → ℕ → ℕ → List ℕ → Type 0
StepsOver nodes old place height new = (level : ℕ) → level < height
    → ((next_on nodes level (slice_index old level) ≡ place) × (slice_index new level ≡ place))
    ⊎ ((next_on nodes level (slice_index old level) ≢ place) × (slice_index new level ≡ slice_index old level))

-- whether a node is there and holds a version
abbrev pub is_full : List Node → ℕ → Bool
is_full nodes place = ltb place (length nodes) && not (is_vacant (node_at nodes place).held)

-- A place of a level is linked there still, with its version, or holds none now.
abbrev pub KeepsPlace : List Node → List Node → ℕ → ℕ → Type 0
KeepsPlace old new level place =
    (Contains (places_on new level) place × (version_at new place ≡ version_at old place))
    ⊎ (is_vacant (node_at new place).held ≡ true)

-- So many versions were taken out, which are those that no mark keeps.
pub record Sweeps (old : List Node) (free : FreeList) (marks : List ℕ) (new : List Node) (new_free : FreeList) (removed : ℕ) : Type 0 where
  pub arena : IsArena new new_free.first new_free.count
  pub len : length new ≡ length old
  pub kept : KeepsMarked (versions_on old 0) marks (versions_on new 0)
  pub fewer : removed + length (places_on new 0) ≡ length (places_on old 0)
  pub freed : new_free.count ≡ free.count + removed
  pub linked : (level place : ℕ) → level < LEVELS → Contains (places_on old level) place → KeepsPlace old new level place
