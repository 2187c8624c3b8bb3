-- Which words are which command (docs/formats/program.md, "Commands").
use Rattle.std.specs.Prelude.{◌≡◌, ℕ, ◌-◌, ◌^◌, List, [], ◌∷◌, ◌++◌, codes}
use Rattle.stall_monitor.specs.declared.verdict.TheConstants.{THRESHOLD_MAX}
use Rattle.command_line.specs.declared.command.Command.{Command}
use Rattle.command_line.specs.declared.command.Command.TheVariants.{Replay, Recover, Dump, Load, Flush, View, Ship}
use Rattle.command_line.specs.declared.command.TheConstants.{THRESHOLD_DEFAULT, LOAD_MAX}
use Rattle.command_line.specs.Numbers.{IsNumberIn}

-- the text of a threshold, of a seed, and of a count of batches
abbrev pub IsThreshold : List ℕ → ℕ → Type 0
IsThreshold = IsNumberIn 1 THRESHOLD_MAX

abbrev pub IsSeed : List ℕ → ℕ → Type 0
IsSeed = IsNumberIn 0 (2 ^ 64 - 1)

abbrev pub IsCount : List ℕ → ℕ → Type 0
IsCount = IsNumberIn 1 LOAD_MAX

-- `replay`, with the default threshold, or with the one in the next word or behind `=`
pub data AsksToReplay (words : List (List ℕ)) (threshold : ℕ) : Type 0 where
  default : words ≡ codes "replay" ∷ [] → threshold ≡ THRESHOLD_DEFAULT
      → AsksToReplay words threshold
  apart : (text : List ℕ) → words ≡ codes "replay" ∷ codes "--threshold" ∷ text ∷ []
      → IsThreshold text threshold → AsksToReplay words threshold
  joined : (text : List ℕ) → words ≡ codes "replay" ∷ (codes "--threshold=" ++ text) ∷ []
      → IsThreshold text threshold → AsksToReplay words threshold

-- the one word `recover`
abbrev pub AsksToRecover : List (List ℕ) → Type 0
AsksToRecover words = words ≡ codes "recover" ∷ []

-- the one word `dump`
abbrev pub AsksToDump : List (List ℕ) → Type 0
AsksToDump words = words ≡ codes "dump" ∷ []

-- `load SEED COUNT`
pub record AsksToLoad (words : List (List ℕ)) (seed batches : ℕ) : Type 0 where
  pub seed_text : List ℕ
  pub count_text : List ℕ
  pub words_are : words ≡ codes "load" ∷ seed_text ∷ count_text ∷ []
  pub seed_is : IsSeed seed_text seed
  pub count_is : IsCount count_text batches

-- the one word `flush`
abbrev pub AsksToFlush : List (List ℕ) → Type 0
AsksToFlush words = words ≡ codes "flush" ∷ []

-- the one word `view`
abbrev pub AsksToView : List (List ℕ) → Type 0
AsksToView words = words ≡ codes "view" ∷ []

-- the one word `ship`
abbrev pub AsksToShip : List (List ℕ) → Type 0
AsksToShip words = words ≡ codes "ship" ∷ []

-- The words are this command.
abbrev pub IsCommandOf : List (List ℕ) → Command → Type 0
IsCommandOf words (Replay threshold) = AsksToReplay words threshold
IsCommandOf words Recover = AsksToRecover words
IsCommandOf words Dump = AsksToDump words
IsCommandOf words (Load seed batches) = AsksToLoad words seed batches
IsCommandOf words Flush = AsksToFlush words
IsCommandOf words View = AsksToView words
IsCommandOf words Ship = AsksToShip words

-- The words are no command.
abbrev pub IsNoCommand : List (List ℕ) → Type 0
IsNoCommand words = (command : Command) → IsCommandOf words command → ⊥

-- Words are one command at most.
abbrev pub WordsAreOneCommand : Type 0
WordsAreOneCommand = (words : List (List ℕ)) (command other : Command)
    → IsCommandOf words command → IsCommandOf words other → command ≡ other
