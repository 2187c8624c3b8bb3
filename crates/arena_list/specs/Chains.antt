-- Places that lead on to one another, and 0 for the end. Nothing of it is seen from outside.
use Rattle.std.specs.Prelude.{◌≡◌, ◌≢◌, ℕ, zero, suc, ◌==◌, if◌then◌else◌, List, [], ◌∷◌}

-- From the first of them each place leads on to the next one, and the last one to the end.
abbrev pub LeadsAlong : (ℕ → ℕ) → ℕ → List ℕ → Type 0
LeadsAlong next first [] = first ≡ 0
LeadsAlong next first (place ∷ places) = (first ≡ place) × (place ≢ 0) × LeadsAlong next (next place) places

-- the places that follow, in so many steps at most
unfoldable pub path : (ℕ → ℕ) → ℕ → ℕ → List ℕ
path next first zero = []
path next first (suc steps) = if first == 0 then [] else first ∷ path next (next first) steps

-- the last of the places, or what stands before them
abbrev pub last_of : ℕ → List ℕ → ℕ
last_of start [] = start
last_of start (place ∷ places) = last_of place places
