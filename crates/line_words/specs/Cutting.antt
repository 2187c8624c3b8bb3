-- The pieces that are left of a text as it is cut (docs/formats/program.md, "The whole script").
use Rattle.std.specs.Prelude.{ℕ, ◌==◌, ◌||◌, Bool, true, false, List, []}
use Rattle.std.specs.List.{slice_split}
use Rattle.line_words.specs.declared.pieces.Cut.{Cut}
use Rattle.line_words.specs.declared.pieces.Cut.TheVariants.{AtLineFeeds, AtBlanks}

-- A text is cut at its line feeds, or at each space and tab.
abbrev pub is_cut : Cut → ℕ → Bool
is_cut AtLineFeeds b = b == 10
is_cut AtBlanks b = b == 32 || b == 9

-- what stands between the cuts, first to last
unfoldable pub pieces : Cut → List ℕ → List (List ℕ)
pieces cut text = slice_split (is_cut cut) text

-- the pieces that are left of a text: none where it is done
abbrev pub pieces_left : Cut → List ℕ → Bool → List (List ℕ)
pieces_left cut rest true = []
pieces_left cut rest false = pieces cut rest
