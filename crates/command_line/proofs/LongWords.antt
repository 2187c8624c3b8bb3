-- A word with two hyphens in front is its name, and behind an `=` its value.
use Rattle.std.proofs.Common.{◌≡◌, ◌⊎◌, inl, inr, ◌∙◌, ap, sym, refl, ℕ, Bool, true, false, ◌==◌, zero, suc, arith, List, [], ◌∷◌, ◌++◌, Option, Some, None}
use Rattle.std.proofs.lemmas.Bool.Decides.{nat_tests}
use Rattle.std.specs.Prelude.{option_and_then}
use Rattle.std.proofs.lemmas.List.{append-nil}
use Rattle.clap.specs.Lexer.{long_of, long_of_rest, strip_byte, name_and_value}
use Rattle.clap.proofs.CutLemmas.{Lacks}
use Rattle.clap.proofs.LexerLemmas.{name_and_value-at, name_and_value-without}

-- what follows the name
abbrev pub behind : Option (List ℕ) → List ℕ
behind None = []
behind (Some value) = 61 ∷ value

lacks_more : (x : ℕ) (xs : List ℕ) → (x ≡ 61 → ⊥) → Lacks 61 xs → Lacks 61 (x ∷ xs)
lacks_more x xs differs lacks zero low = differs
lacks_more x xs differs lacks (suc i) low = lacks i (omega arith)

-- a text, cut at its first `=` if it has one
cut : (text : List ℕ) → Lacks 61 text ⊎ ((a : List ℕ) × (b : List ℕ) × (text ≡ a ++ 61 ∷ b) × Lacks 61 a)
cut [] = inl (λ i low. absurd (omega arith))
cut (x ∷ xs) = go (x == 61) refl (cut xs)
  where
    go : (same : Bool) → (x == 61) ≡ same → Lacks 61 xs ⊎ ((a : List ℕ) × (b : List ℕ) × (xs ≡ a ++ 61 ∷ b) × Lacks 61 a)
        → Lacks 61 (x ∷ xs) ⊎ ((a : List ℕ) × (b : List ℕ) × (x ∷ xs ≡ a ++ 61 ∷ b) × Lacks 61 a)
    go true is rest = let equal : x ≡ 61 = grind (arith, nat_tests) in inr ([], xs, ap (λ y. y ∷ xs) equal, λ i low. absurd (omega arith))
    go false is (inl lacks) = let differs : x ≡ 61 → ⊥ = λ e. absurd (grind (arith, nat_tests)) in inl (lacks_more x xs differs lacks)
    go false is (inr (a, b, parts, lacks)) =
        let differs : x ≡ 61 → ⊥ = λ e. absurd (grind (arith, nat_tests)) in
        inr (x ∷ a, b, ap (λ ys. x ∷ ys) parts, lacks_more x a differs lacks)

-- the name, and what follows it
abbrev whole : List ℕ × Option (List ℕ) → List ℕ
whole p = p.0 ++ behind p.1

parts : (text : List ℕ) → text ≡ whole (name_and_value text)
parts text = go (cut text)
  where
    go : Lacks 61 text ⊎ ((a : List ℕ) × (b : List ℕ) × (text ≡ a ++ 61 ∷ b) × Lacks 61 a) → text ≡ whole (name_and_value text)
    go (inl lacks) = sym (append-nil text) ∙ ap whole (sym (name_and_value-without text lacks))
    go (inr (a, b, is, lacks)) = is ∙ ap whole (sym (name_and_value-at a b lacks)) ∙ ap (λ t. whole (name_and_value t)) (sym is)

rest_is : (rest : List ℕ) (found : List ℕ × Option (List ℕ)) → long_of_rest rest ≡ Some found → rest ≡ whole found
rest_is [] found is = cc
rest_is (x ∷ xs) found is = let same : name_and_value (x ∷ xs) ≡ found = cc in parts (x ∷ xs) ∙ ap whole same

strip_is : (text rest : List ℕ) → strip_byte 45 text ≡ Some rest → text ≡ 45 ∷ rest
strip_is [] rest is = cc
strip_is (x ∷ xs) rest is = go (x == 45) refl
  where
    go : (same : Bool) → (x == 45) ≡ same → x ∷ xs ≡ 45 ∷ rest
    go true e = let equal : x ≡ 45 = grind (arith, nat_tests) in let there : Some xs ≡ Some rest = rw e at is in cc
    go false e = let none : None ≡ Some rest = rw e at is in cc

pub long_is : (word name : List ℕ) (value : Option (List ℕ)) → long_of word ≡ Some (name, value) → word ≡ 45 ∷ 45 ∷ (name ++ behind value)
long_is word name value is = go (strip_byte 45 word) refl is
  where
    second : (text : List ℕ) (found : Option (List ℕ)) → strip_byte 45 text ≡ found → option_and_then long_of_rest found ≡ Some (name, value)
        → text ≡ 45 ∷ (name ++ behind value)
    second text None e from = cc
    second text (Some rest) e from = strip_is text rest e ∙ ap (λ t. 45 ∷ t) (rest_is rest (name, value) from)

    go : (found : Option (List ℕ)) → strip_byte 45 word ≡ found → option_and_then long_of_rest (option_and_then (strip_byte 45) found) ≡ Some (name, value)
        → word ≡ 45 ∷ 45 ∷ (name ++ behind value)
    go None e from = cc
    go (Some text) e from = strip_is word text e ∙ ap (λ t. 45 ∷ t) (second text (strip_byte 45 text) refl from)
