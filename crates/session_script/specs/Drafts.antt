-- A script as far as it is read (docs/formats/program.md, "The whole script").
use Rattle.std.specs.Prelude.{◌≡◌, ◌⊎◌, ℕ, ◌+◌, max, true, false, List, [], ◌∷◌, ◌++◌, Option, Some, None}
use Rattle.session_replies.specs.declared.script.Round.{Round}
use Rattle.session_replies.specs.declared.script.Script.{Script}
use Rattle.session_script.specs.declared.saying.Saying.{Saying}
use Rattle.session_script.specs.declared.saying.Saying.TheVariants as sayings
use Rattle.session_script.specs.declared.reading.Draft.{Draft}
use Rattle.session_script.specs.Lines.{LineSays, IsNoLine}

-- a round in which nothing happens
abbrev pub empty_round : Round
empty_round = record { stalls = []; lines = [] }

-- the draft of no line
abbrev pub empty_draft : Draft
empty_draft = record { ended = []; round = empty_round; halted = false; sessions = 1 }

-- a draft in which one thing more is said
abbrev pub with_saying : Draft → Saying → Draft
with_saying draft (sayings.Does line) =
    record draft { round = record { stalls = draft.round.stalls; lines = draft.round.lines ++ line ∷ [] }; sessions = max draft.sessions (line.session + 1) }
with_saying draft (sayings.Stalls line) = record draft { round = record { stalls = draft.round.stalls ++ line ∷ []; lines = draft.round.lines } }
with_saying draft sayings.EndsRound = record draft { ended = draft.ended ++ draft.round ∷ []; round = empty_round }
with_saying draft sayings.Halts = record draft { halted = true }

-- A draft takes what a line says: nothing, or something where no halt was said.
abbrev pub TakesSaying : Draft → Option Saying → Draft → Type 0
TakesSaying old None new = new ≡ old
TakesSaying old (Some saying) new = (old.halted ≡ false) × (new ≡ with_saying old saying)

-- A draft takes a line.
pub record TakesLine (old : Draft) (line : List ℕ) (new : Draft) : Type 0 where
  pub here : Option Saying
  pub says : LineSays line here
  pub taken : TakesSaying old here new

-- A line is no line of a script, or says something after a halt.
abbrev pub RefusesLine : Draft → List ℕ → Type 0
RefusesLine draft line = IsNoLine line ⊎ ((draft.halted ≡ true) × (saying : Saying) × LineSays line (Some saying))

-- the script that a draft is at the end
abbrev pub script_of : Draft → Script
script_of draft = record { rounds = draft.ended ++ draft.round ∷ []; halted = draft.halted; sessions = draft.sessions }
