-- A script: rounds of the acts of sessions (docs/formats/program.md, "The whole script").
use Rattle.std.specs.Prelude.{◌≡◌, ◌≢◌, ℕ, ◌+◌, max, Bool, true, false, List, [], ◌∷◌, ◌++◌, length, map, fold, Option, Some, None}
use Rattle.std.specs.List.{AllByRecursion, filter_map, slice_split}
use Rattle.std.specs.Option.{option_to_list}
use Rattle.session_replies.specs.declared.script.Line.{Line}
use Rattle.session_replies.specs.declared.script.StallLine.{StallLine}
use Rattle.session_replies.specs.declared.script.Round.{Round}
use Rattle.session_replies.specs.declared.script.Script.{Script}
use Rattle.session_script.specs.declared.saying.Saying.{Saying}
use Rattle.session_script.specs.declared.saying.Saying.TheVariants as sayings
use Rattle.line_words.specs.Words.{lines_of}
use Rattle.session_script.specs.Lines.{LineSays}

-- These are what the lines say, in order.
abbrev pub LinesSay : List (List ℕ) → List Saying → Type 0
LinesSay [] said = said ≡ []
LinesSay (line ∷ lines) said = (here : Option Saying) × (rest : List Saying) × LineSays line here × LinesSay lines rest × (said ≡ option_to_list here ++ rest)

-- ---- rounds

abbrev pub ends_round : Saying → Bool
ends_round (sayings.Does line) = false
ends_round (sayings.Stalls line) = false
ends_round sayings.EndsRound = true
ends_round sayings.Halts = false

-- the act that is asked for
abbrev pub line_said : Saying → Option Line
line_said (sayings.Does line) = Some line
line_said (sayings.Stalls line) = None
line_said sayings.EndsRound = None
line_said sayings.Halts = None

-- the stall that is asked for
abbrev pub stall_said : Saying → Option StallLine
stall_said (sayings.Does line) = None
stall_said (sayings.Stalls line) = Some line
stall_said sayings.EndsRound = None
stall_said sayings.Halts = None

-- a round of what is said in it
abbrev pub round_of : List Saying → Round
round_of said = record { stalls = filter_map stall_said said; lines = filter_map line_said said }

-- the rounds: what is said, cut at each `round`
unfoldable pub rounds_of : List Saying → List Round
rounds_of said = map round_of (slice_split ends_round said)

-- so many sessions are named up to the one of this saying, by their numbers
abbrev pub sessions_named : Saying → ℕ
sessions_named (sayings.Does line) = line.session + 1
sessions_named (sayings.Stalls line) = 0
sessions_named sayings.EndsRound = 0
sessions_named sayings.Halts = 0

-- 1 more than the greatest session named, at least 1
unfoldable pub sessions_of : List Saying → ℕ
sessions_of said = fold (λ most saying. max most (sessions_named saying)) 1 said

-- `halt`, or nothing
abbrev pub halt_if : Bool → List Saying
halt_if true = sayings.Halts ∷ []
halt_if false = []

-- ---- the script

-- The lines are this script. Nothing is said after a `halt`.
pub record AreScript (lines : List (List ℕ)) (script : Script) : Type 0 where
  pub said : List Saying
  pub says : LinesSay lines (said ++ halt_if script.halted)
  pub going : AllByRecursion (λ saying. saying ≢ sayings.Halts) said
  pub rounds : script.rounds ≡ rounds_of said
  pub sessions : script.sessions ≡ sessions_of said

-- The bytes are this script.
abbrev pub IsScript : List ℕ → Script → Type 0
IsScript bytes script = AreScript (lines_of bytes) script

-- ---- the first bad line

-- The line of this number, counted from 1, is the first bad one: the lines before it are a script, and with it they are none.
pub record IsFirstBad (lines : List (List ℕ)) (number : ℕ) : Type 0 where
  pub before : List (List ℕ)
  pub line : List ℕ
  pub after : List (List ℕ)
  pub is : lines ≡ before ++ line ∷ after
  pub script : Script
  pub accepted : AreScript before script
  pub bad : (longer : Script) → AreScript (before ++ line ∷ []) longer → ⊥
  pub number_is : number ≡ length before + 1
