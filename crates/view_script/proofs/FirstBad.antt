-- Lines that are all accepted have no bad one, and the first bad line is one.
use Rattle.std.proofs.Common.{◌≡◌, ℕ, List, [], ◌∷◌, ◌++◌, length, refl, sym, ◌∙◌, subst, arith}
use Rattle.view_script.specs.declared.view_line.ViewLine.{ViewLine}
use Rattle.view_script.specs.Asking.{AsksNothing, AreAsked, IsFirstBadLine}

-- each of the lines asks for something
asks_at : (before after : List (List ℕ)) (line : List ℕ) (asked : List ViewLine) → AreAsked (before ++ line ∷ after) asked → AsksNothing line → ⊥
unfolding AreAsked
asks_at before after line [] a nothing = none before a
  where
    none : (before : List (List ℕ)) → AreAsked (before ++ line ∷ after) [] → ⊥
    none [] a = a
    none (l ∷ before) a = a
asks_at [] after line (one ∷ asked) a nothing = nothing one a.0
asks_at (l ∷ before) after line (one ∷ asked) a nothing = asks_at before after line asked a.1 nothing

pub none_bad : (lines : List (List ℕ)) (asked : List ViewLine) (number : ℕ) → AreAsked lines asked → IsFirstBadLine lines number → ⊥
none_bad lines asked number a bad =
    asks_at bad.before bad.after bad.line asked (subst (λ (l : List (List ℕ)). AreAsked l asked) bad.is a) bad.bad

-- as many lines are before the first one that asks for nothing
as_many : (before others after rest : List (List ℕ)) (line other : List ℕ) (one two : List ViewLine)
    → before ++ line ∷ after ≡ others ++ other ∷ rest
    → AreAsked before one → AreAsked others two → AsksNothing line → AsksNothing other → length before ≡ length others
unfolding AreAsked
as_many [] [] after rest line other one two e a b first second = refl
as_many (l ∷ before) others after rest line other [] two e a b first second = absurd a
as_many before (o ∷ others) after rest line other one [] e a b first second = absurd b
as_many [] (o ∷ others) after rest line other one (y ∷ two) e a b first second =
    let same : line ≡ o = cc in
    absurd (subst AsksNothing same first y b.0)
as_many (l ∷ before) [] after rest line other (x ∷ one) two e a b first second =
    let same : other ≡ l = cc in
    absurd (subst AsksNothing same second x a.0)
as_many (l ∷ before) (o ∷ others) after rest line other (x ∷ one) (y ∷ two) e a b first second =
    let more : before ++ line ∷ after ≡ others ++ other ∷ rest = cc in
    let same = as_many before others after rest line other one two more a.1 b.1 first second in
    omega (arith, same)

pub one_bad : (lines : List (List ℕ)) (number other : ℕ) → IsFirstBadLine lines number → IsFirstBadLine lines other → number ≡ other
one_bad lines number other a b =
    let same = as_many a.before b.before a.after b.after a.line b.line a.asked b.asked (sym a.is ∙ b.is) a.accepted b.accepted a.bad b.bad in
    omega (arith, same, a.number_is, b.number_is)
