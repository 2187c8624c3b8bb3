-- The last word of a line (docs/formats/view.md, "The lines").
use Rattle.std.specs.Prelude.{◌≡◌, ℕ, ◌<◌, ◌^◌, List, [], ◌∷◌}
use Rattle.std.specs.Fmt.{decimal}
use Rattle.line_words.specs.Words.{IsWord}

-- One word is left, and spells this number.
abbrev pub EndsWithNumber : List (List ℕ) → ℕ → Type 0
EndsWithNumber old number = (old ≡ decimal number ∷ []) × (number < 2 ^ 64)

abbrev pub EndsWithNoNumber : List (List ℕ) → Type 0
EndsWithNoNumber old = (number : ℕ) → number < 2 ^ 64 → old ≡ decimal number ∷ [] → ⊥

-- One word is left, and is this one.
abbrev pub EndsWithWord : List (List ℕ) → List ℕ → Type 0
EndsWithWord old word = (old ≡ word ∷ []) × IsWord word

abbrev pub EndsWithNoWord : List (List ℕ) → Type 0
EndsWithNoWord old = (word : List ℕ) → IsWord word → old ≡ word ∷ [] → ⊥
