-- What a vector of nodes means: for each level the places that follow the head's link there. Nothing of it is seen from outside.
use Rattle.std.specs.Prelude.{◌≡◌, ℕ, ◌+◌, ◌^◌, ◌<◌, Bool, true, false, List, [], ◌∷◌, length, map, Option, Some, None, Contains, slice_index, slice_index_or, ⊤}
use Rattle.std.specs.List.{range_with_len}
use Rattle.arena_list.specs.declared.node.TheConstants.{LEVELS}
use Rattle.arena_list.specs.declared.node.Held.{Held}
use Rattle.arena_list.specs.declared.node.Held.TheVariants.{Vacant, Deletion, Set}
use Rattle.arena_list.specs.declared.node.Node.{Node}
use Rattle.arena_list.specs.Versions.{KeyVersion, Precedes}
use Rattle.arena_list.specs.Arena.{Arena}
use Rattle.arena_list.specs.Chains.{LeadsAlong, path}

-- ---- one node

abbrev pub key_of : Held → List ℕ
key_of Vacant = []
key_of (Deletion key) = key
key_of (Set key bytes) = key

abbrev pub value_of : Held → Option (List ℕ)
value_of Vacant = None
value_of (Deletion key) = None
value_of (Set key bytes) = Some bytes

abbrev pub is_vacant : Held → Bool
is_vacant Vacant = true
is_vacant (Deletion key) = false
is_vacant (Set key bytes) = false

-- what is held of a version with this key and value
abbrev pub held_of : List ℕ → Option (List ℕ) → Held
held_of key None = Deletion key
held_of key (Some bytes) = Set key bytes

-- what is held, where it is a version
abbrev pub unless_vacant : Held → Option Held
unless_vacant Vacant = None
unless_vacant (Deletion key) = Some (Deletion key)
unless_vacant (Set key bytes) = Some (Set key bytes)

abbrev pub version_in : Node → KeyVersion
version_in node = record { key = key_of node.held; number = node.seq; value = value_of node.held }

-- ---- a vector of nodes

abbrev pub no_node : Node
no_node = record { held = Vacant; lead = 0; seq = 0; links = [] }

abbrev pub node_at : List Node → ℕ → Node
node_at nodes place = slice_index_or nodes place no_node

abbrev pub version_at : List Node → ℕ → KeyVersion
version_at nodes place = version_in (node_at nodes place)

-- the place that a node leads on to at a level
abbrev pub next_on : List Node → ℕ → ℕ → ℕ
next_on nodes level place = slice_index (node_at nodes place).links level

-- the places that are linked at a level
unfoldable pub places_on : List Node → ℕ → List ℕ
places_on nodes level = path (next_on nodes level) (next_on nodes level 0) (length nodes)

-- the versions that are linked at a level
abbrev pub versions_on : List Node → ℕ → List KeyVersion
versions_on nodes level = map (version_at nodes) (places_on nodes level)

-- the refinement: what nodes and a number of free places are seen as
abbrev pub arena_of : List Node → ℕ → Arena
arena_of nodes count = record { versions = versions_on nodes 0; levels = map (versions_on nodes) (range_with_len 0 LEVELS); free = count }

-- the versions from a place on, along a level
abbrev pub versions_along : List Node → ℕ → ℕ → List KeyVersion
versions_along nodes level from = map (version_at nodes) (path (next_on nodes level) from (length nodes))

-- ---- the invariant

-- The version at each of the places goes before those after it.
abbrev pub AscendPlaces : List Node → List ℕ → Type 0
AscendPlaces nodes [] = ⊤
AscendPlaces nodes (place ∷ places) =
    ((later : ℕ) → Contains places later → Precedes (version_at nodes place) (version_at nodes later)) × AscendPlaces nodes places

-- The place's node is there, and holds a version or not.
abbrev pub HasNode : List Node → Bool → ℕ → Type 0
HasNode nodes vacant place = (place < length nodes) × (is_vacant (node_at nodes place).held ≡ vacant)

-- These places are linked at the level.
pub record IsLevel (nodes : List Node) (level : ℕ) (places : List ℕ) : Type 0 where
  pub follows : LeadsAlong (next_on nodes level) (next_on nodes level 0) places
  pub ascends : AscendPlaces nodes places
  pub held : (place : ℕ) → Contains places place → HasNode nodes false place

-- Each level is in order, and what is linked at one is linked at the one below.
pub record IsLinked (nodes : List Node) : Type 0 where
  pub levels : (level : ℕ) → level < LEVELS → IsLevel nodes level (places_on nodes level)
  pub below : (level place : ℕ) → level + 1 < LEVELS → Contains (places_on nodes (level + 1)) place → Contains (places_on nodes level) place

-- From the place on, a level leads along nodes to the end.
pub record IsOnLevel (nodes : List Node) (level from : ℕ) : Type 0 where
  pub within : level < LEVELS
  pub rest : List ℕ
  pub follows : LeadsAlong (next_on nodes level) from rest
  pub there : (place : ℕ) → Contains rest place → place < length nodes

-- These places are free, and linked from the first one on.
pub record AreFree (nodes : List Node) (first count : ℕ) (places : List ℕ) : Type 0 where
  pub follows : LeadsAlong (next_on nodes 0) first places
  pub vacant : (place : ℕ) → Contains places place → HasNode nodes true place
  pub counted : length places ≡ count

-- What a list keeps: levels that are linked, and free places, which are all others but the head's.
pub record IsArena (nodes : List Node) (first count : ℕ) : Type 0 where
  pub linked : IsLinked nodes
  pub frees : List ℕ
  pub free : AreFree nodes first count frees
  pub all : length (places_on nodes 0) + count + 1 ≡ length nodes
  pub few : length nodes < 2 ^ 32
