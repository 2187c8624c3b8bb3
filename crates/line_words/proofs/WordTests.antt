-- Words, by a test that the checker computes.
use Rattle.std.proofs.Common.{◌≡◌, ℕ, suc, zero, Bool, true, false, not, ◌&&◌, ltb, List, [], ◌∷◌, refl, arith}
use Rattle.std.specs.Prelude.{All, ◌==◌}
use Rattle.std.specs.List.{AllByRecursion}
use Rattle.std.proofs.lemmas.Bool.Decides.{nat_tests}
use Rattle.line_words.specs.Words.{IsWordByte, IsWord}

pub all_of : {X : Type 0} (P : X → Type 0) (xs : List X) → AllByRecursion P xs → All P xs
all_of P [] all k d below = absurd (omega (arith, below))
all_of P (x ∷ xs) all zero d below = all.0
all_of P (x ∷ xs) all (suc k) d below = all_of P xs all.1 k d (omega (arith, below))

abbrev pub byte_test : ℕ → Bool
byte_test b = ltb 32 b && (ltb b 127 && not (b == 59))

abbrev pub bytes_test : List ℕ → Bool
bytes_test [] = true
bytes_test (b ∷ bs) = byte_test b && bytes_test bs

byte_told : (b : ℕ) → byte_test b ≡ true → IsWordByte b
byte_told b told = (grind (arith, nat_tests, told), grind (arith, nat_tests, told), λ e. grind (arith, nat_tests, told, e))

both : (a b : Bool) → (a && b) ≡ true → (a ≡ true) × (b ≡ true)
both true b e = (refl, e)
both false b e = absurd cc

bytes_told : (bs : List ℕ) → bytes_test bs ≡ true → AllByRecursion IsWordByte bs
bytes_told [] told = tt
bytes_told (b ∷ bs) told = let parts = both (byte_test b) (bytes_test bs) told in (byte_told b parts.0, bytes_told bs parts.1)

pub is_word : (b : ℕ) (bs : List ℕ) → bytes_test (b ∷ bs) ≡ true → IsWord (b ∷ bs)
is_word b bs told = (λ e. absurd cc, all_of IsWordByte (b ∷ bs) (bytes_told (b ∷ bs) told))
