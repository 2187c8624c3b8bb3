-- The entries that a search looks at first, which stand in a vector. Nothing of it is seen from outside.
use Rattle.std.specs.Prelude.{◌≡◌, ◌≢◌, ◌⊎◌, ℕ, ◌-◌, ◌<◌, ◌≤◌, IsTrue, false, List, None, map, length, Contains, slice_index, slice_index_or, take, drop}
use Rattle.std.specs.List.{insert, remove}
use Rattle.arena_list.specs.declared.node.TheConstants.{LEVELS, GUIDE_HEIGHT}
use Rattle.arena_list.specs.declared.node.Node.{Node}
use Rattle.arena_list.specs.declared.guide.Guide.{Guide}
use Rattle.arena_list.specs.Leads.{lead_of, IsLengthInLead}
use Rattle.arena_list.specs.Versions.{KeyVersion, GoesBefore}
use Rattle.arena_list.specs.Nodes.{version_at, places_on, AscendPlaces}

-- the places of the nodes that the entries are for
abbrev pub places_of : List Guide → List ℕ
places_of top = map (λ guide. guide.place) top

-- An entry tells the lead of what follows so many bytes in a version's key, its number, and the length of what follows where that ends within the lead.
pub record TellsVersion (shared : ℕ) (guide : Guide) (version : KeyVersion) : Type 0 where
  pub lead : guide.lead ≡ lead_of (drop shared version.key)
  pub number : guide.number ≡ version.number
  pub len : IsLengthInLead guide.len (drop shared version.key)

-- These are some of the places that are linked at a level, in order.
pub record AreSomeOn (nodes : List Node) (level : ℕ) (places : List ℕ) : Type 0 where
  pub linked : (place : ℕ) → Contains places place → Contains (places_on nodes level) place
  pub ascends : AscendPlaces nodes places

-- The entries are for some of the nodes with high towers, in order. Each tells its node's version, and none is tall whose tower does not have all levels.
pub record IsTop (shared : ℕ) (nodes : List Node) (top : List Guide) : Type 0 where
  pub places : AreSomeOn nodes (GUIDE_HEIGHT - 1) (places_of top)
  pub tells : (guide : Guide) → Contains top guide → TellsVersion shared guide (version_at nodes guide.place)
  pub tall : (guide : Guide) → Contains top guide → IsTrue guide.is_tall → Contains (places_on nodes (LEVELS - 1)) guide.place

-- So many of the places go before a key and a number, and the others do not.
pub record IsTopCut (nodes : List Node) (places : List ℕ) (key : List ℕ) (number index : ℕ) : Type 0 where
  pub within : index ≤ length places
  pub early : (place : ℕ) → Contains (take index places) place → GoesBefore (version_at nodes place) key number
  pub late : (place : ℕ) → Contains (drop index places) place → GoesBefore (version_at nodes place) key number → ⊥

-- An entry is for a place with a tower of this height, and tells of its node.
pub record IsGuideTo (shared : ℕ) (nodes : List Node) (place height : ℕ) (guide : Guide) : Type 0 where
  pub at : guide.place ≡ place
  pub tells : TellsVersion shared guide (version_at nodes place)
  pub tall : IsTrue guide.is_tall → height ≡ LEVELS

-- The list is as it was, or an entry for a place with a high tower is put in at the index.
abbrev pub PutsInTop : ℕ → List Node → List Guide → ℕ → ℕ → ℕ → List Guide → Type 0
PutsInTop shared nodes top index place height new =
    (new ≡ top) ⊎ ((GUIDE_HEIGHT ≤ height) × (guide : Guide) × IsGuideTo shared nodes place height guide × (new ≡ insert top index guide))

-- The entry is taken out where the one at the index is for the place.
abbrev pub TakesFromTop : List Guide → ℕ → ℕ → List Guide → Type 0
TakesFromTop top index place new =
    ((index < length top) × (slice_index (places_of top) index ≡ place) × (new ≡ remove top index))
    ⊎ (((index < length top) → slice_index (places_of top) index ≢ place) × (new ≡ top))

-- the entry at an index
abbrev pub no_guide : Guide
no_guide = record { lead = 0; number = 0; place = 0; len = None; is_tall = false }

abbrev pub guide_at : List Guide → ℕ → Guide
guide_at top index = slice_index_or top index no_guide

-- Each entry below the index tells of its node, whose key has a front of so many bytes. It is for the place that it was for.
pub record GuidesAnew (nodes : List Node) (shared index : ℕ) (old new : List Guide) : Type 0 where
  pub len : length new ≡ length old
  pub place : (k : ℕ) → (guide_at new k).place ≡ (guide_at old k).place
  pub tall : (k : ℕ) → (guide_at new k).is_tall ≡ (guide_at old k).is_tall
  pub tells : (k : ℕ) → k < index → TellsVersion shared (guide_at new k) (version_at nodes (guide_at new k).place)
