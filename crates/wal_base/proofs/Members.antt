-- What a list contains: its first element, and the others.
use Rattle.std.proofs.Common.{◌≡◌, ◌⊎◌, inl, inr, zero, suc, List, [], ◌∷◌, refl, arith}
use Rattle.std.specs.Prelude.{Contains}

pub none_within : {X : Type 0} (x : X) → Contains [] x → ⊥
none_within x (k, below, is) = omega (arith, below)

pub within_head : {X : Type 0} (x : X) (xs : List X) → Contains (x ∷ xs) x
within_head x xs = (0, omega arith, refl)

pub within_tail : {X : Type 0} (y : X) (xs : List X) (x : X) → Contains xs x → Contains (y ∷ xs) x
within_tail y xs x at = (suc at.0, omega (arith, at.1), at.2)

pub within_cases : {X : Type 0} (y : X) (xs : List X) (x : X) → Contains (y ∷ xs) x → (y ≡ x) ⊎ Contains xs x
within_cases y xs x (zero, below, is) = inl is
within_cases y xs x (suc k, below, is) = inr (k, omega (arith, below), is)
