-- Bytes cut into lines and words (docs/formats/program.md, "The script").
use Rattle.std.specs.Prelude.{◌≢◌, ℕ, ◌==◌, ◌||◌, ◌≤◌, List, [], All}
use Rattle.std.specs.List.{slice_split}

-- the lines of a text: a line feed ends each, and may be left out at the end
unfoldable pub lines_of : List ℕ → List (List ℕ)
lines_of text = slice_split (λ b. b == 10) text

-- the words of a line, if exactly one space or tab stands between two of them
unfoldable pub words_of : List ℕ → List (List ℕ)
words_of line = slice_split (λ b. b == 32 || b == 9) line

-- a byte of a word: from 0x21 to 0x7E, and no semicolon
abbrev pub IsWordByte : ℕ → Type 0
IsWordByte b = (33 ≤ b) × (b ≤ 126) × (b ≢ 59)

abbrev pub IsWord : List ℕ → Type 0
IsWord word = (word ≢ []) × All IsWordByte word
