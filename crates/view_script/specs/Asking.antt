-- What the lines of a text ask for (docs/formats/view.md, "The lines").
use Rattle.std.specs.Prelude.{◌≡◌, ℕ, ◌+◌, ◌<◌, ◌^◌, List, [], ◌∷◌, ◌++◌, length, codes}
use Rattle.std.specs.Fmt.{decimal}
use Rattle.line_words.specs.Words.{lines_of, words_of, IsWord}
use Rattle.view_script.specs.declared.view_line.ViewLine.{ViewLine}
use Rattle.view_script.specs.declared.view_line.ViewLine.TheVariants.{Hold, Get, Scan, Release, Purge}

-- the lines, without an empty last one
unfoldable pub without_empty_end : List (List ℕ) → List (List ℕ)
without_empty_end [] = []
without_empty_end ([] ∷ []) = []
without_empty_end (line ∷ lines) = line ∷ without_empty_end lines

-- the lines of a text: a line feed ends each, and may be left out at the end
unfoldable pub view_lines : List ℕ → List (List ℕ)
view_lines text = without_empty_end (lines_of text)

-- What words ask for: `hold N`, `get I K`, `scan I`, `scan I K`, `release I`, `purge`. Numbers are written in decimal digits,
-- without leading zeros. A scan without a key begins at the empty one, which is before all others.
pub data WordsAsk (words : List (List ℕ)) : ViewLine → Type 0 where
  hold : (at : ℕ) → at < 2 ^ 64 → words ≡ codes "hold" ∷ decimal at ∷ []
      → WordsAsk words (Hold at)
  get : (i : ℕ) (key : List ℕ) → i < 2 ^ 64 → IsWord key → words ≡ codes "get" ∷ decimal i ∷ key ∷ []
      → WordsAsk words (Get i key)
  scan : (i : ℕ) → i < 2 ^ 64 → words ≡ codes "scan" ∷ decimal i ∷ []
      → WordsAsk words (Scan i [])
  scan_from : (i : ℕ) (key : List ℕ) → i < 2 ^ 64 → IsWord key → words ≡ codes "scan" ∷ decimal i ∷ key ∷ []
      → WordsAsk words (Scan i key)
  release : (i : ℕ) → i < 2 ^ 64 → words ≡ codes "release" ∷ decimal i ∷ []
      → WordsAsk words (Release i)
  purge : words ≡ codes "purge" ∷ []
      → WordsAsk words Purge

-- The words ask for nothing.
abbrev pub WordsAskNothing : List (List ℕ) → Type 0
WordsAskNothing words = (asked : ViewLine) → WordsAsk words asked → ⊥

-- what a line asks for: what its words do
abbrev pub LineAsks : List ℕ → ViewLine → Type 0
LineAsks line asked = WordsAsk (words_of line) asked

-- The line is not accepted.
abbrev pub AsksNothing : List ℕ → Type 0
AsksNothing line = WordsAskNothing (words_of line)

-- What a line asks for is added behind what is asked already.
abbrev pub AddsLine : List ViewLine → List ℕ → List ViewLine → Type 0
AddsLine old line new = (one : ViewLine) × LineAsks line one × (new ≡ old ++ one ∷ [])

-- An empty line that ends the lines is none: it only stands behind the last line feed.
abbrev pub IsEmptyEnd : List ℕ → List (List ℕ) → Type 0
IsEmptyEnd line after = (line ≡ []) × (after ≡ [])

abbrev pub IsNoEmptyEnd : List ℕ → List (List ℕ) → Type 0
IsNoEmptyEnd line after = IsEmptyEnd line after → ⊥

-- These are what the lines ask for, each by its line, in order.
unfoldable pub AreAsked : List (List ℕ) → List ViewLine → Type 0
AreAsked [] [] = Unit {0}
AreAsked [] (one ∷ asked) = ⊥
AreAsked (line ∷ lines) [] = ⊥
AreAsked (line ∷ lines) (one ∷ asked) = LineAsks line one × AreAsked lines asked

-- The line of this number, counted from 1, is the first bad one: each line before it asks for something, and it asks for nothing.
pub record IsFirstBadLine (lines : List (List ℕ)) (number : ℕ) : Type 0 where
  pub before : List (List ℕ)
  pub line : List ℕ
  pub after : List (List ℕ)
  pub is : lines ≡ before ++ line ∷ after
  pub asked : List ViewLine
  pub accepted : AreAsked before asked
  pub bad : AsksNothing line
  pub number_is : number ≡ length before + 1
