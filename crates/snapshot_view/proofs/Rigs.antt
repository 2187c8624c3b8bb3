-- What the tests keep of the holds: which of them stand.
use Rattle.std.proofs.Common.{◌≡◌, ℕ, zero, suc, ◌+◌, ◌≤◌, Bool, true, false, List, [], ◌∷◌, ◌++◌, length, Option, Some, None, slice_get, slice_set, refl, arith}
use Rattle.snapshot_view.specs.Views.{HoldStands}

-- There is a test for each hold, and those stand whose test says so.
abbrev pub TellsHeld : List Bool → List (Option ℕ) → Type 0
TellsHeld tests holds = (length tests ≡ length holds) × ((number : ℕ) → slice_get tests number ≡ Some true → HoldStands holds number)

pub one_held : (tests : List Bool) (holds : List (Option ℕ)) (at : ℕ) → TellsHeld tests holds → TellsHeld (tests ++ true ∷ []) (holds ++ Some at ∷ [])
one_held [] [] at (same, held) = (refl, first)
  where
    first : (number : ℕ) → slice_get (true ∷ []) number ≡ Some true → HoldStands (Some at ∷ []) number
    first zero e = (at, refl)
    first (suc number) e = absurd cc
one_held [] (hold ∷ holds) at (same, held) = absurd (omega (arith, same))
one_held (test ∷ tests) [] at (same, held) = absurd (omega (arith, same))
one_held (test ∷ tests) (hold ∷ holds) at (same, held) =
    go (one_held tests holds at (omega (arith, same), λ number. held (suc number)))
  where
    go : TellsHeld (tests ++ true ∷ []) (holds ++ Some at ∷ []) → TellsHeld (test ∷ (tests ++ true ∷ [])) (hold ∷ (holds ++ Some at ∷ []))
    go rest = (omega (arith, rest.0), each)
      where
        each : (number : ℕ) → slice_get (test ∷ (tests ++ true ∷ [])) number ≡ Some true → HoldStands (hold ∷ (holds ++ Some at ∷ [])) number
        each zero e = held zero e
        each (suc number) e = rest.1 number e

pub one_released : (tests : List Bool) (holds : List (Option ℕ)) (id : ℕ) → TellsHeld tests holds
    → TellsHeld (slice_set tests id false) (slice_set holds id None)
one_released [] [] id (same, held) = (refl, λ number e. absurd cc)
one_released [] (hold ∷ holds) id (same, held) = absurd (omega (arith, same))
one_released (test ∷ tests) [] id (same, held) = absurd (omega (arith, same))
one_released (test ∷ tests) (hold ∷ holds) zero (same, held) = (omega (arith, same), each)
  where
    each : (number : ℕ) → slice_get (false ∷ tests) number ≡ Some true → HoldStands (None ∷ holds) number
    each zero e = absurd cc
    each (suc number) e = held (suc number) e
one_released (test ∷ tests) (hold ∷ holds) (suc id) (same, held) =
    go (one_released tests holds id (omega (arith, same), λ number. held (suc number)))
  where
    go : TellsHeld (slice_set tests id false) (slice_set holds id None)
        → TellsHeld (test ∷ slice_set tests id false) (hold ∷ slice_set holds id None)
    go rest = (omega (arith, rest.0), each)
      where
        each : (number : ℕ) → slice_get (test ∷ slice_set tests id false) number ≡ Some true → HoldStands (hold ∷ slice_set holds id None) number
        each zero e = held zero e
        each (suc number) e = rest.1 number e
