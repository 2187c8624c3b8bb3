-- Lines that ask for something are not empty, so only what stands behind them is left out.
use Rattle.std.proofs.Common.{◌≡◌, ℕ, List, [], ◌∷◌, ◌++◌, refl, ap, ◌∙◌, arith}
use Rattle.line_words.specs.Words.{words_of}
use Rattle.view_script.specs.declared.view_line.ViewLine.{ViewLine}
use Rattle.view_script.specs.Asking.{without_empty_end, IsNoEmptyEnd, WordsAsk, AsksNothing, AreAsked}

no_words : (words : List (List ℕ)) (asked : ViewLine) → words ≡ [] ∷ [] → WordsAsk words asked → ⊥
no_words words asked e a = grind arith

pub empty_asks_nothing : (line : List ℕ) → line ≡ [] → AsksNothing line
unfolding words_of
empty_asks_nothing line empty asked a = no_words (words_of line) asked (ap words_of empty) a

-- Any other line than an empty one at the end is kept.
pub keeps_line : (line : List ℕ) (lines : List (List ℕ)) → IsNoEmptyEnd line lines
    → without_empty_end (line ∷ lines) ≡ line ∷ without_empty_end lines
unfolding without_empty_end
keeps_line [] [] other = absurd (other (refl, refl))
keeps_line [] (next ∷ lines) other = refl
keeps_line (b ∷ line) lines other = refl

pub keeps_asked : (lines rest : List (List ℕ)) (asked : List ViewLine) → AreAsked lines asked
    → without_empty_end (lines ++ rest) ≡ lines ++ without_empty_end rest
unfolding AreAsked
keeps_asked [] rest asked a = refl
keeps_asked (line ∷ lines) rest [] a = absurd a
keeps_asked (line ∷ lines) rest (one ∷ asked) a =
    keeps_line line (lines ++ rest) (λ end. empty_asks_nothing line end.0 one a.0)
    ∙ ap (λ (l : List (List ℕ)). line ∷ l) (keeps_asked lines rest asked a.1)

-- nothing is kept of an empty line that ends the lines
pub ends_empty : (lines : List (List ℕ)) (line : List ℕ) (rest : List (List ℕ)) → lines ≡ line ∷ rest → line ≡ [] → rest ≡ []
    → without_empty_end lines ≡ []
unfolding without_empty_end
ends_empty lines line rest left empty none = rw (left, empty, none)
