-- What stands between the words and a command: its values as texts. Nothing of it is seen outside.
use Rattle.std.specs.Prelude.{◌≡◌, ◌⊎◌, ℕ, List, [], ◌∷◌, ◌++◌, Option, Some, None, codes}
use Rattle.std.specs.Prelude.{option_map}
use Rattle.std.specs.Borrow.{Bor}
use Rattle.clap.specs.Walk.{Row, Text, first_of}
use Rattle.command_line.specs.declared.command.Command.{Command}
use Rattle.command_line.specs.declared.command.Command.TheVariants as commands
use Rattle.command_line.specs.declared.command.TheConstants.{THRESHOLD_DEFAULT}
use Rattle.command_line.specs.declared.asked.Asked.{Asked}
use Rattle.command_line.specs.declared.asked.Asked.TheVariants as asks
use Rattle.command_line.specs.Commands.{IsThreshold, IsSeed, IsCount}
use Rattle.command_line.specs.Program.{command_alone}

-- The words are `replay`, with this text for a threshold or with none.
abbrev pub AsksReplayWith : List (List ℕ) → Option (Bor (List ℕ)) → Type 0
AsksReplayWith words None = words ≡ codes "replay" ∷ []
AsksReplayWith words (Some text) = (words ≡ codes "replay" ∷ codes "--threshold" ∷ text.now ∷ [])
    ⊎ (words ≡ codes "replay" ∷ (codes "--threshold=" ++ text.now) ∷ [])

-- The words ask so, whatever their texts for numbers are.
abbrev pub IsAskedBy : List (List ℕ) → Asked → Type 0
IsAskedBy words (asks.Replay threshold) = AsksReplayWith words threshold
IsAskedBy words (asks.Load seed count) = words ≡ codes "load" ∷ seed.now ∷ count.now ∷ []
IsAskedBy words (asks.Alone command) =
    (word : List ℕ) × (words ≡ word ∷ []) × (command_alone word ≡ Some command)

-- The text is this threshold, or there is none and this is the default.
abbrev pub MeansThreshold : Option (Bor (List ℕ)) → ℕ → Type 0
MeansThreshold None threshold = threshold ≡ THRESHOLD_DEFAULT
MeansThreshold (Some text) threshold = IsThreshold text.now threshold

-- With its texts read, what is asked is this command.
abbrev pub Means : Asked → Command → Type 0
Means (asks.Replay text) (commands.Replay threshold) = MeansThreshold text threshold
Means (asks.Load seed_text count_text) (commands.Load seed batches) =
    IsSeed seed_text.now seed × IsCount count_text.now batches
Means (asks.Alone command) other = other ≡ command
Means _ _ = ⊥

-- ---- by what `clap` finds

-- What is asked, by the name of the command and what was found behind it.
abbrev pub IsReadFrom : Text → List Row → Asked → Type 0
IsReadFrom name rows (asks.Replay threshold) =
    (name ≡ codes "replay")
    × (option_map (λ text. text.now) threshold ≡ first_of (codes "threshold") rows)
IsReadFrom name rows (asks.Load seed count) = (name ≡ codes "load")
    × (first_of (codes "seed") rows ≡ Some seed.now)
    × (first_of (codes "count") rows ≡ Some count.now)
IsReadFrom name rows (asks.Alone command) = command_alone name ≡ Some command

-- The name is of no command, or it is `load` and one of its two words was not found.
abbrev pub IsReadFromNothing : Text → List Row → Type 0
IsReadFromNothing name rows = (name ≡ codes "replay" → ⊥) × (command_alone name ≡ None)
    × (name ≡ codes "load" → (seed count : Text) → first_of (codes "seed") rows ≡ Some seed
    → first_of (codes "count") rows ≡ Some count → ⊥)
