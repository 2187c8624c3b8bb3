-- What comes next among the words of a line, and what is left after it (docs/formats/program.md, "The script").
use Rattle.std.specs.Prelude.{◌≡◌, ℕ, ◌≤◌, List, ◌∷◌}
use Rattle.std.specs.Fmt.{decimal}
use Rattle.line_words.specs.Words.{IsWord}

-- The next word is this one.
abbrev pub TakesWord : List (List ℕ) → List ℕ → List (List ℕ) → Type 0
TakesWord old word new = (old ≡ word ∷ new) × IsWord word

abbrev pub HasNoWord : List (List ℕ) → Type 0
HasNoWord old = (word : List ℕ) (new : List (List ℕ)) → old ≡ word ∷ new → IsWord word → ⊥

-- The next word spells this number, which is within these limits.
abbrev pub TakesNumber : ℕ → ℕ → List (List ℕ) → ℕ → List (List ℕ) → Type 0
TakesNumber least most old number new = (old ≡ decimal number ∷ new) × (least ≤ number) × (number ≤ most)

abbrev pub HasNoNumber : ℕ → ℕ → List (List ℕ) → Type 0
HasNoNumber least most old = (number : ℕ) (new : List (List ℕ)) → old ≡ decimal number ∷ new → least ≤ number → number ≤ most → ⊥
