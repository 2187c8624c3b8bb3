-- What each step does to a vector of nodes. Nothing of it is seen from outside.
use Rattle.std.specs.Prelude.{◌≡◌, ◌≢◌, ◌⊎◌, ℕ, ◌+◌, ◌^◌, ◌<◌, true, List, [], ◌∷◌, ◌++◌, length, Contains, slice_index}
use Rattle.arena_list.specs.declared.node.TheConstants.{LEVELS}
use Rattle.arena_list.specs.declared.node.Held.{Held}
use Rattle.arena_list.specs.declared.node.Node.{Node}
use Rattle.arena_list.specs.declared.links.FreeList.{FreeList}
use Rattle.arena_list.specs.Versions.{GoesBefore}
use Rattle.arena_list.specs.Chains.{last_of}
use Rattle.arena_list.specs.Nodes.{node_at, version_at, next_on, places_on, is_vacant}

-- ---- the search

-- The places of a level are those that go before a key and a number, of which this is the last one, and those that do not.
pub record IsCut (nodes : List Node) (level : ℕ) (key : List ℕ) (number last : ℕ) : Type 0 where
  pub before : List ℕ
  pub after : List ℕ
  pub is : places_on nodes level ≡ before ++ after
  pub ends : last ≡ last_of 0 before
  pub early : (place : ℕ) → Contains before place → GoesBefore (version_at nodes place) key number
  pub late : (place : ℕ) → Contains after place → GoesBefore (version_at nodes place) key number → ⊥

-- A search may go on along a level from this place: it is the head, or goes before what is sought.
abbrev pub MayGoOn : List Node → ℕ → List ℕ → ℕ → ℕ → Type 0
MayGoOn nodes level key number last = (last ≡ 0) ⊎ (Contains (places_on nodes level) last × GoesBefore (version_at nodes last) key number)

-- A search stops at this place: it is the end, or does not go before what is sought.
abbrev pub MayStop : List Node → List ℕ → ℕ → ℕ → Type 0
MayStop nodes key number next = (next ≡ 0) ⊎ (GoesBefore (version_at nodes next) key number → ⊥)

-- Each level below the height is cut by the place that is told for it. On a higher one the head may be told instead.
pub record AreCutsTo (nodes : List Node) (key : List ℕ) (number height : ℕ) (lasts : List ℕ) : Type 0 where
  pub low : (level : ℕ) → level < height → IsCut nodes level key number (slice_index lasts level)
  pub high : (level : ℕ) → level < LEVELS → IsCut nodes level key number (slice_index lasts level) ⊎ (slice_index lasts level ≡ 0)

-- Each level is cut by the place that is told for it, or this place is not linked there, and the head is told.
abbrev pub AreLastsFor : List Node → List ℕ → ℕ → ℕ → List ℕ → Type 0
AreLastsFor nodes key number place lasts = (level : ℕ) → level < LEVELS
    → IsCut nodes level key number (slice_index lasts level) ⊎ ((Contains (places_on nodes level) place → ⊥) × (slice_index lasts level ≡ 0))

-- Each level is cut by the place that is told for it.
abbrev pub AreCuts : List Node → List ℕ → ℕ → List ℕ → Type 0
AreCuts nodes key number lasts = (level : ℕ) → level < LEVELS → IsCut nodes level key number (slice_index lasts level)

-- ---- the links

-- There is a node at each of these places.
abbrev pub AreWithin : List Node → List ℕ → Type 0
AreWithin nodes lasts = (level : ℕ) → level < LEVELS → slice_index lasts level < length nodes

-- None of these places is that one.
abbrev pub AreOtherPlaces : List ℕ → ℕ → Type 0
AreOtherPlaces lasts place = (level : ℕ) → level < LEVELS → slice_index lasts level ≢ place

-- No more than links differ.
pub record KeepsVersions (old new : List Node) : Type 0 where
  pub len : length new ≡ length old
  pub held : (place : ℕ) → (node_at new place).held ≡ (node_at old place).held
  pub lead : (place : ℕ) → (node_at new place).lead ≡ (node_at old place).lead
  pub seq : (place : ℕ) → (node_at new place).seq ≡ (node_at old place).seq

-- So many levels high each of the nodes leads on to the place.
pub record LinksIn (old : List Node) (lasts : List ℕ) (place height : ℕ) (new : List Node) : Type 0 where
  pub kept : KeepsVersions old new
  pub to : (level : ℕ) → level < height → next_on new level (slice_index lasts level) ≡ place
  pub others : (level other : ℕ) → (level < height → other ≢ slice_index lasts level) → next_on new level other ≡ next_on old level other

-- On each level of these, each of the nodes that led on to the place leads on to what follows it.
pub record LinksOut (old : List Node) (lasts : List ℕ) (place height : ℕ) (new : List Node) : Type 0 where
  pub kept : KeepsVersions old new
  pub to : (level : ℕ) → level < height → next_on old level (slice_index lasts level) ≡ place
      → next_on new level (slice_index lasts level) ≡ next_on old level place
  pub others : (level other : ℕ) → (other ≡ slice_index lasts level → level < height → next_on old level other ≢ place)
      → next_on new level other ≡ next_on old level other

-- ---- the places

-- A place is made at the end, which holds nothing and leads on to no other.
pub record MakesPlace (nodes : List Node) (place : ℕ) (new_nodes : List Node) : Type 0 where
  pub at : place ≡ length nodes
  pub few : length nodes + 1 < 2 ^ 32
  pub made : Node
  pub is : new_nodes ≡ nodes ++ made ∷ []
  pub vacant : is_vacant made.held ≡ true
  pub ends : slice_index made.links 0 ≡ 0

-- A place is taken off the free list, or made at the end where none is free.
abbrev pub TakesPlace : List Node → FreeList → ℕ → List Node → FreeList → Type 0
TakesPlace nodes free place new_nodes new_free =
    ((free.first ≢ 0) × (place ≡ free.first) × (new_nodes ≡ nodes) × (new_free.first ≡ next_on nodes 0 place) × (new_free.count + 1 ≡ free.count))
    ⊎ ((free.first ≡ 0) × MakesPlace nodes place new_nodes × (new_free ≡ free))

-- A version is put into a place, which leads on to what these nodes led on to, and they lead on to it, so many levels high.
pub record PutsIn (old : List Node) (lasts : List ℕ) (place height : ℕ) (held : Held) (lead seq : ℕ) (new : List Node) : Type 0 where
  pub len : length new ≡ length old
  pub holds : (node_at new place).held ≡ held
  pub leads : (node_at new place).lead ≡ lead
  pub has : (node_at new place).seq ≡ seq
  pub kept : (other : ℕ) → other ≢ place → (node_at new other).held ≡ (node_at old other).held
  pub led : (other : ℕ) → other ≢ place → (node_at new other).lead ≡ (node_at old other).lead
  pub same : (other : ℕ) → other ≢ place → (node_at new other).seq ≡ (node_at old other).seq
  pub to : (level : ℕ) → level < height → next_on new level (slice_index lasts level) ≡ place
  pub on : (level : ℕ) → level < height → next_on new level place ≡ next_on old level (slice_index lasts level)
  pub others : (level other : ℕ) → other ≢ place → (level < height → other ≢ slice_index lasts level) → next_on new level other ≡ next_on old level other

-- A place holds nothing now, leads on to the first free one, and nothing leads on to it any more.
pub record TakesOut (old : List Node) (lasts : List ℕ) (place first : ℕ) (new : List Node) : Type 0 where
  pub len : length new ≡ length old
  pub vacant : is_vacant (node_at new place).held ≡ true
  pub next : next_on new 0 place ≡ first
  pub held : (other : ℕ) → other ≢ place → (node_at new other).held ≡ (node_at old other).held
  pub lead : (other : ℕ) → other ≢ place → (node_at new other).lead ≡ (node_at old other).lead
  pub seq : (other : ℕ) → other ≢ place → (node_at new other).seq ≡ (node_at old other).seq
  pub to : (level : ℕ) → level < LEVELS → slice_index lasts level ≢ place → next_on old level (slice_index lasts level) ≡ place
      → next_on new level (slice_index lasts level) ≡ next_on old level place
  pub others : (level other : ℕ) → other ≢ place → (other ≡ slice_index lasts level → level < LEVELS → next_on old level other ≢ place)
      → next_on new level other ≡ next_on old level other
