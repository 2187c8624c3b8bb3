-- Which words `clap` takes behind `load`, and what it finds in them.
use Rattle.std.proofs.Common.{◌≡◌, ◌∙◌, ap, refl, subst, false, List, [], ◌∷◌, Some, None, codes}
use Rattle.clap.specs.Walk.{Row, Rule, Text, Walk, finished, idle, nothing_held, reading_by, rows_after, walk_from, walked}
use Rattle.clap.specs.Simple.{Shape}
use Rattle.clap.specs.Faults.{turn_fault}
use Rattle.clap.specs.declared.parser.matches.ValueSource.TheVariants.{CommandLine}
use Rattle.clap.proofs.OnLiterals.{clap_on_literals}
use Rattle.command_line.specs.Program.{has_end}
use Rattle.command_line.proofs.Enters.{leaf, seed, count}
use Rattle.command_line.proofs.Turns.{HasNoShort, Passes, as_option, as_value, at, turn}
use Rattle.command_line.proofs.Walks.{from, neither, walked_by, word_then}

abbrev pub rules : List Rule
rules = seed ∷ count ∷ []

abbrev pub load : Shape
load = leaf (codes "load") rules

-- what is found for one of the two
abbrev pub row : Rule → Text → Row
row rule text = record {
  id = rule.id;
  values = text ∷ [];
  count = None;
  source = Some CommandLine;
  reading = reading_by rule;
}

short : HasNoShort rules
short x = refl

-- The words are two, and are found as the seed and the count.
pub record TakesLoad (words : List Text) : Type 0 where
  pub seed_text : Text
  pub count_text : Text
  pub are : words ≡ seed_text ∷ count_text ∷ []
  pub found : rows_after rules [] words ≡ row seed seed_text ∷ row count count_text ∷ []

-- ---- places of the walk, by how many words were met

abbrev pub one_at : Text → Walk
one_at a = at [] (Some (codes "seed", a ∷ [])) idle 2

abbrev pub two_at : Text → Text → Walk
two_at a b = at (row seed a ∷ []) (Some (codes "count", b ∷ [])) idle 3

two_end : (a b : Text) (words : List Text) → has_end words ≡ false → from load (two_at a b) words ≡ [] → words ≡ []
unfolding clap_on_literals
two_end a b [] whole passes = refl
two_end a b (word ∷ words) whole passes =
    absurd (go (turn load [] (row seed a ∷ []) (Some (codes "count", b ∷ [])) idle 3 word short refl (neither _ _ whole).0
    (word_then load (two_at a b) word words passes).0))
  where
    go : Passes load [] (two_at a b) word → ⊥
    go (as_option name value is passed) = cc
    go (as_value long met passed) = cc

one_takes : (a : Text) (words : List Text) → has_end words ≡ false → from load (one_at a) words ≡ []
    → (b : Text) × (words ≡ b ∷ []) × (walked rules [] (one_at a) b ≡ two_at a b)
unfolding clap_on_literals
one_takes a [] whole passes = cc
one_takes a (word ∷ words) whole passes =
    go (turn load [] [] (Some (codes "seed", a ∷ [])) idle 2 word short refl (neither _ _ whole).0 then.0)
  where
    then : (turn_fault load [] (one_at a) word ≡ []) × (from load (walked rules [] (one_at a) word) words ≡ [])
    then = word_then load (one_at a) word words passes

    go : Passes load [] (one_at a) word → (b : Text) × (word ∷ words ≡ b ∷ []) × (walked rules [] (one_at a) b ≡ two_at a b)
    go (as_option name value is passed) = cc
    go (as_value long met passed) =
        let there : walked rules [] (one_at a) word ≡ two_at a word = walked_by rules [] (Some (codes "seed", a ∷ [])) idle 2 word _ met in
        let none = two_end a word words (neither _ _ whole).1 (subst (λ w. from load w words ≡ []) there then.1) in
        (word, ap (λ ws. word ∷ ws) none, there)

pub takes_load : (words : List Text) → has_end words ≡ false → from load (walk_from nothing_held) words ≡ [] → TakesLoad words
unfolding clap_on_literals
takes_load [] whole passes = cc
takes_load (word ∷ words) whole passes = go (turn load [] [] None idle 1 word short refl (neither _ _ whole).0 then.0)
  where
    then : (turn_fault load [] (walk_from nothing_held) word ≡ []) × (from load (walked rules [] (walk_from nothing_held) word) words ≡ [])
    then = word_then load (walk_from nothing_held) word words passes

    go : Passes load [] (walk_from nothing_held) word → TakesLoad (word ∷ words)
    go (as_option name value is passed) = cc
    go (as_value long met passed) =
        let there : walked rules [] (walk_from nothing_held) word ≡ one_at word = walked_by rules [] None idle 1 word _ met in
        let taken = one_takes word words (neither _ _ whole).1 (subst (λ w. from load w words ≡ []) there then.1) in
        let are : word ∷ words ≡ word ∷ taken.0 ∷ [] = ap (λ ws. word ∷ ws) taken.1 in
        record {
          seed_text = word;
          count_text = taken.0;
          are = are;
          found = ap (rows_after rules []) are ∙ ap (λ (w : Walk). finished rules (walked rules [] w taken.0).held) there
              ∙ ap (λ (w : Walk). finished rules w.held) taken.2;
        }
