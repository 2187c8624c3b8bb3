-- Words ask for one thing at most, and so do lines.
use Rattle.std.proofs.Common.{◌≡◌, ℕ, List, [], ◌∷◌, refl, arith}
use Rattle.std.specs.Prelude.{◌<◌, ◌^◌}
use Rattle.std.specs.Fmt.{decimal}
use Rattle.std.proofs.lemmas.Fmt.{decimal_injective}
use Rattle.line_words.specs.Words.{words_of}
use Rattle.view_script.specs.declared.view_line.ViewLine.{ViewLine}
use Rattle.view_script.specs.Asking.{WordsAsk, AreAsked}

-- numbers are told apart by their digits
one_number : (m n : ℕ) → m < 2 ^ 64 → n < 2 ^ 64 → decimal m ≡ decimal n → m ≡ n
one_number m n low high e = decimal_injective m n (omega (arith, low)) (omega (arith, high)) e

pub one_asked : (words : List (List ℕ)) (one other : ViewLine) → WordsAsk words one → WordsAsk words other → one ≡ other
one_asked words one other a b = grind (arith, one_number)

pub one_view : (lines : List (List ℕ)) (one other : List ViewLine) → AreAsked lines one → AreAsked lines other → one ≡ other
unfolding AreAsked
one_view [] [] [] a b = refl
one_view [] [] (y ∷ other) a b = absurd b
one_view [] (x ∷ one) other a b = absurd a
one_view (line ∷ lines) [] other a b = absurd a
one_view (line ∷ lines) (x ∷ one) [] a b = absurd b
one_view (line ∷ lines) (x ∷ one) (y ∷ other) a b = λ i. one_asked (words_of line) x y a.0 b.0 i ∷ one_view lines one other a.1 b.1 i
