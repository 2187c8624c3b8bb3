-- What a list is seen as (docs/formats/ring.md, "The shards").
use Rattle.std.specs.Prelude.{◌≡◌, ◌⊎◌, ℕ, ◌+◌, ◌<◌, List, [], length, slice_index_or}
use Rattle.arena_list.specs.Versions.{KeyVersion}

-- the versions in order, those that are linked at each level, and how many places are free
pub record Arena : Type 0 where
  pub versions : List KeyVersion
  pub levels : List (List KeyVersion)
  pub free : ℕ

-- the versions that are linked at a level
abbrev pub on_level : Arena → ℕ → List KeyVersion
on_level arena level = slice_index_or arena.levels level []

-- how many places there are: one for each version, and the free ones
abbrev pub places_in : Arena → ℕ
places_in arena = length arena.versions + arena.free

-- A free place is taken where there is one, and a place is made where there is none.
abbrev pub UsesPlace : Arena → Arena → Type 0
UsesPlace old new = ((0 < old.free) × (new.free + 1 ≡ old.free) × (places_in new ≡ places_in old))
    ⊎ ((old.free ≡ 0) × (new.free ≡ 0) × (places_in new ≡ places_in old + 1))

-- A place is made where none was free, and nothing else changes.
abbrev pub MakesRoom : Arena → Arena → Type 0
MakesRoom old new = ((0 < old.free) × (new ≡ old)) ⊎ ((old.free ≡ 0) × (new ≡ record old { free = 1 }))
