-- Which words `clap` takes behind `replay`, and what it finds in them.
use Rattle.std.proofs.Common.{◌≡◌, ◌∙◌, ap, ap₂, sym, refl, subst, Bool, true, false, List, [], ◌∷◌, ◌++◌, Option, Some, None, codes}
use Rattle.std.specs.Str.{bytes_eq}
use Rattle.std.proofs.lemmas.Slice.Eq.{bytes_eq-Decides}
use Rattle.clap.specs.Walk.{Held, Row, Rule, Text, Walk, arg_by_long, idle, option, reading_by, rows_after, walk_from, nothing_held, walked, finished}
use Rattle.clap.specs.Simple.{Shape}
use Rattle.clap.specs.Faults.{long_fault, option_fault, turn_fault}
use Rattle.clap.specs.declared.parser.matches.ValueSource.TheVariants.{CommandLine}
use Rattle.clap.proofs.OnLiterals.{clap_on_literals}
use Rattle.command_line.specs.Program.{has_end}
use Rattle.command_line.proofs.Enters.{leaf, threshold}
use Rattle.command_line.proofs.LongWords.{long_is}
use Rattle.command_line.proofs.Turns.{HasNoShort, Passes, as_option, as_value, at, turn}
use Rattle.command_line.proofs.Walks.{from, neither, settles_first, walked_by, word_then}

abbrev pub rules : List Rule
rules = threshold ∷ []

abbrev pub replay : Shape
replay = leaf (codes "replay") rules

-- what is found for a threshold
abbrev pub row : Text → Row
row text = record {
  id = codes "threshold";
  values = text ∷ [];
  count = None;
  source = Some CommandLine;
  reading = reading_by threshold;
}

short : HasNoShort rules
short x = refl

-- The words are one of the three forms, and this is found in them.
pub data TakesReplay (words : List Text) : Type 0 where
  bare : words ≡ [] → rows_after rules [] words ≡ [] → TakesReplay words
  apart : (text : Text) → words ≡ codes "--threshold" ∷ text ∷ [] → rows_after rules [] words ≡ row text ∷ [] → TakesReplay words
  joined : (text : Text) → words ≡ (codes "--threshold=" ++ text) ∷ [] → rows_after rules [] words ≡ row text ∷ [] → TakesReplay words

-- an option that does not fail is `--threshold`
known : (name : Text) (value : Option Text) (h : Held) → long_fault rules false (arg_by_long rules name) value h ≡ []
    → (codes "threshold" ≡ name) × (option_fault rules false threshold value h ≡ [])
known name value h passes = go (bytes_eq (codes "threshold") name) refl
  where
    go : (same : Bool) → bytes_eq (codes "threshold") name ≡ same → (codes "threshold" ≡ name) × (option_fault rules false threshold value h ≡ [])
    go true is = ((bytes_eq-Decides (codes "threshold") name).0 is, rw is at passes)
    go false is = let bad = rw is at passes in cc

-- ---- places of the walk, from the last one to the first

-- two thresholds, of which the second waits to be used
abbrev both_at : Text → Text → Walk
both_at x y = at (row x ∷ []) (Some (codes "threshold", y ∷ [])) idle 1

-- a threshold, and a second `--threshold` that waits for its value
abbrev second_at : Text → Walk
second_at x = at (row x ∷ []) (Some (codes "threshold", [])) (option (codes "threshold")) 1

-- a threshold that is used, or waits to be
abbrev used_at : Text → Walk
used_at x = at (row x ∷ []) None idle 1

abbrev pub pending_at : Text → Walk
pending_at x = at [] (Some (codes "threshold", x ∷ [])) idle 1

-- `--threshold`, which waits for its value
abbrev pub first_at : Walk
first_at = at [] (Some (codes "threshold", [])) (option (codes "threshold")) 1

both_fails : (x y : Text) (words : List Text) → has_end words ≡ false → from replay (both_at x y) words ≡ [] → ⊥
unfolding clap_on_literals
both_fails x y [] whole passes = cc
both_fails x y (word ∷ words) whole passes =
    go (turn replay [] (row x ∷ []) (Some (codes "threshold", y ∷ [])) idle 1 word short refl (neither _ _ whole).0 (word_then replay (both_at x y) word words passes).0)
  where
    go : Passes replay [] (both_at x y) word → ⊥
    go (as_option name value is passed) = let bad = settles_first rules false threshold value (both_at x y).held (known name value (both_at x y).held passed).1 in cc
    go (as_value long met passed) = cc

second_fails : (x : Text) (words : List Text) → has_end words ≡ false → from replay (second_at x) words ≡ [] → ⊥
unfolding clap_on_literals
second_fails x [] whole passes = cc
second_fails x (word ∷ words) whole passes =
    go (turn replay [] (row x ∷ []) (Some (codes "threshold", [])) (option (codes "threshold")) 1 word short refl (neither _ _ whole).0 then.0)
  where
    then : (turn_fault replay [] (second_at x) word ≡ []) × (from replay (walked rules [] (second_at x) word) words ≡ [])
    then = word_then replay (second_at x) word words passes

    go : Passes replay [] (second_at x) word → ⊥
    go (as_option name value is passed) = let bad = settles_first rules false threshold value (second_at x).held (known name value (second_at x).held passed).1 in cc
    go (as_value long met passed) =
        let there : walked rules [] (second_at x) word ≡ both_at x word =
        walked_by rules (row x ∷ []) (Some (codes "threshold", [])) (option (codes "threshold")) 1 word _ met in
        both_fails x word words (neither _ _ whole).1 (subst (λ w. from replay w words ≡ []) there then.1)

used_ends : (x : Text) (words : List Text) → has_end words ≡ false → from replay (used_at x) words ≡ [] → words ≡ []
unfolding clap_on_literals
used_ends x [] whole passes = refl
used_ends x (word ∷ words) whole passes =
    absurd (go (turn replay [] (row x ∷ []) None idle 1 word short refl (neither _ _ whole).0 then.0))
  where
    then : (turn_fault replay [] (used_at x) word ≡ []) × (from replay (walked rules [] (used_at x) word) words ≡ [])
    then = word_then replay (used_at x) word words passes

    go : Passes replay [] (used_at x) word → ⊥
    go (as_option name None is passed) =
        let word_is : word ≡ codes "--threshold" = long_is word name None is ∙ ap (λ n. 45 ∷ 45 ∷ (n ++ [])) (sym (known name None (used_at x).held passed).0) in
        let there : walked rules [] (used_at x) word ≡ second_at x = ap (walked rules [] (used_at x)) word_is in
        second_fails x words (neither _ _ whole).1 (subst (λ w. from replay w words ≡ []) there then.1)
    go (as_option name (Some value) is passed) = let bad = (known name (Some value) (used_at x).held passed).1 in cc
    go (as_value long met passed) = cc

pending_ends : (x : Text) (words : List Text) → has_end words ≡ false → from replay (pending_at x) words ≡ [] → words ≡ []
unfolding clap_on_literals
pending_ends x [] whole passes = refl
pending_ends x (word ∷ words) whole passes =
    absurd (go (turn replay [] [] (Some (codes "threshold", x ∷ [])) idle 1 word short refl (neither _ _ whole).0 then.0))
  where
    then : (turn_fault replay [] (pending_at x) word ≡ []) × (from replay (walked rules [] (pending_at x) word) words ≡ [])
    then = word_then replay (pending_at x) word words passes

    go : Passes replay [] (pending_at x) word → ⊥
    go (as_option name None is passed) =
        let word_is : word ≡ codes "--threshold" = long_is word name None is ∙ ap (λ n. 45 ∷ 45 ∷ (n ++ [])) (sym (known name None (pending_at x).held passed).0) in
        let there : walked rules [] (pending_at x) word ≡ second_at x = ap (walked rules [] (pending_at x)) word_is in
        second_fails x words (neither _ _ whole).1 (subst (λ w. from replay w words ≡ []) there then.1)
    go (as_option name (Some value) is passed) = let bad = (known name (Some value) (pending_at x).held passed).1 in cc
    go (as_value long met passed) = cc

-- a value follows, and it is the last word
first_takes : (words : List Text) → has_end words ≡ false → from replay first_at words ≡ []
    → (text : Text) × (words ≡ text ∷ []) × (walked rules [] first_at text ≡ pending_at text)
unfolding clap_on_literals
first_takes [] whole passes = cc
first_takes (word ∷ words) whole passes =
    go (turn replay [] [] (Some (codes "threshold", [])) (option (codes "threshold")) 1 word short refl (neither _ _ whole).0 then.0)
  where
    then : (turn_fault replay [] first_at word ≡ []) × (from replay (walked rules [] first_at word) words ≡ [])
    then = word_then replay first_at word words passes

    go : Passes replay [] first_at word → (text : Text) × (word ∷ words ≡ text ∷ []) × (walked rules [] first_at text ≡ pending_at text)
    go (as_option name value is passed) = let bad = settles_first rules false threshold value first_at.held (known name value first_at.held passed).1 in cc
    go (as_value long met passed) =
        let there : walked rules [] first_at word ≡ pending_at word =
        walked_by rules [] (Some (codes "threshold", [])) (option (codes "threshold")) 1 word _ met in
        let none = pending_ends word words (neither _ _ whole).1 (subst (λ w. from replay w words ≡ []) there then.1) in
        (word, ap (λ ws. word ∷ ws) none, there)

pub takes_replay : (words : List Text) → has_end words ≡ false → from replay (walk_from nothing_held) words ≡ [] → TakesReplay words
unfolding clap_on_literals
takes_replay [] whole passes = bare refl refl
takes_replay (word ∷ words) whole passes = go (turn replay [] [] None idle 1 word short refl (neither _ _ whole).0 then.0)
  where
    then : (turn_fault replay [] (walk_from nothing_held) word ≡ []) × (from replay (walked rules [] (walk_from nothing_held) word) words ≡ [])
    then = word_then replay (walk_from nothing_held) word words passes

    go : Passes replay [] (walk_from nothing_held) word → TakesReplay (word ∷ words)
    go (as_option name None is passed) =
        let word_is : word ≡ codes "--threshold" = long_is word name None is ∙ ap (λ n. 45 ∷ 45 ∷ (n ++ [])) (sym (known name None nothing_held passed).0) in
        let there : walked rules [] (walk_from nothing_held) word ≡ first_at = ap (walked rules [] (walk_from nothing_held)) word_is in
        let taken = first_takes words (neither _ _ whole).1 (subst (λ w. from replay w words ≡ []) there then.1) in
        let words_are : word ∷ words ≡ codes "--threshold" ∷ taken.0 ∷ [] = ap₂ (λ w ws. w ∷ ws) word_is taken.1 in
        apart taken.0 words_are
        (ap (rows_after rules []) words_are ∙ ap (λ (w : Walk). finished rules w.held) taken.2)
    go (as_option name (Some value) is passed) =
        let word_is : word ≡ codes "--threshold=" ++ value = long_is word name (Some value) is ∙ ap (λ n. 45 ∷ 45 ∷ (n ++ 61 ∷ value)) (sym (known name (Some value) nothing_held passed).0) in
        let there : walked rules [] (walk_from nothing_held) word ≡ used_at value = ap (walked rules [] (walk_from nothing_held)) word_is in
        let none = used_ends value words (neither _ _ whole).1 (subst (λ w. from replay w words ≡ []) there then.1) in
        let words_are : word ∷ words ≡ (codes "--threshold=" ++ value) ∷ [] = ap₂ (λ w ws. w ∷ ws) word_is none in
        joined value words_are (ap (rows_after rules []) words_are)
    go (as_value long met passed) = cc
