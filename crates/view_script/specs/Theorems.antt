-- Laws of lines, each as one statement (docs/formats/view.md, "The lines").
use Rattle.std.specs.Prelude.{◌≡◌, ℕ, List}
use Rattle.view_script.specs.declared.view_line.ViewLine.{ViewLine}
use Rattle.view_script.specs.Asking.{AreAsked, IsFirstBadLine}

-- Lines ask for one thing each at most.
abbrev pub BytesAreOneView : Type 0
BytesAreOneView = (lines : List (List ℕ)) (one other : List ViewLine) → AreAsked lines one → AreAsked lines other → one ≡ other

-- There is one first bad line at most.
abbrev pub LinesHaveOneFirstBad : Type 0
LinesHaveOneFirstBad = (lines : List (List ℕ)) (line other : ℕ) → IsFirstBadLine lines line → IsFirstBadLine lines other → line ≡ other

-- Lines that are all accepted have no bad one.
abbrev pub AskedLinesAreNotBad : Type 0
AskedLinesAreNotBad = (lines : List (List ℕ)) (asked : List ViewLine) (line : ℕ) → AreAsked lines asked → IsFirstBadLine lines line → ⊥
