-- No words stand behind a command that has no arguments.
use Rattle.std.proofs.Common.{◌≡◌, refl, false, List, [], ◌∷◌, None}
use Rattle.clap.specs.Walk.{Text, idle, nothing_held, walk_from}
use Rattle.command_line.specs.Program.{has_end}
use Rattle.command_line.proofs.Enters.{leaf}
use Rattle.command_line.proofs.Turns.{Passes, as_option, as_value, turn}
use Rattle.command_line.proofs.Walks.{from, neither, word_then}

pub takes_none : (name : Text) (words : List Text) → has_end words ≡ false → from (leaf name []) (walk_from nothing_held) words ≡ [] → words ≡ []
takes_none name [] whole passes = refl
takes_none name (word ∷ words) whole passes =
    absurd (go (turn (leaf name []) [] [] None idle 1 word (λ x. refl) refl (neither _ _ whole).0
    (word_then (leaf name []) (walk_from nothing_held) word words passes).0))
  where
    go : Passes (leaf name []) [] (walk_from nothing_held) word → ⊥
    go (as_option name value is passed) = cc
    go (as_value long met passed) = cc
