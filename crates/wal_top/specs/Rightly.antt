-- That what is said is what has to be said. Nothing of it is seen from outside.
use Rattle.std.specs.Prelude.{◌≡◌, ℕ, List}
use Rattle.wal_top.specs.declared.status.Status.{Status}
use Rattle.wal_top.specs.declared.status.Status.TheVariants.{Write, NoMemory}
use Rattle.wal_top.specs.Call.{Invocation}
use Rattle.wal_top.specs.ByCommand.{HasToSay, IsDue}

-- The status is one of a command: none of a sink that failed, or of memory that ran out.
abbrev pub IsOfCommand : Status → Type 0
IsOfCommand Write = ⊥
IsOfCommand NoMemory = ⊥
IsOfCommand status = Unit {0}

-- Whichever of these statuses is due, it is this one.
abbrev pub IsTheDue : (Status → Type 0) → Status → Type 0
IsTheDue Due status = (due : Status) → Due due → due ≡ status

-- The run has to say so, and no status is due but this one.
pub record SaysRightly (words : List (List ℕ)) (c : Invocation) (status : Status) (text : List ℕ) : Type 0 where
  pub says : HasToSay words c status text
  pub told : IsOfCommand status
  pub due : IsTheDue (IsDue words c) status
