-- How the turns of a round are shared out in parts among threads (docs/formats/program.md, "The run of a script").
use Rattle.std.specs.Prelude.{◌≡◌, ℕ, ◌<◌, List, ◌++◌}
use Rattle.std.specs.List.{AllByRecursion, count_by, flat_map}
use Rattle.commit_pipeline.specs.Openings.{Opening}
use Rattle.session_rounds.specs.declared.course.Course.{Course}
use Rattle.session_rounds.specs.Turns.{has_line, PlayAll}

-- how many of the turns have lines to do
abbrev pub at_work : List Course → ℕ
at_work ts = count_by has_line ts

-- One of them has at least.
abbrev pub SomeIsAtWork : List Course → Type 0
SomeIsAtWork ts = 0 < at_work ts

-- the turns of parts, one part after another
abbrev pub turns_of_parts : List (List Course) → List Course
turns_of_parts parts = flat_map (λ (part : List Course). part) parts

-- Parts for others, and an own one after them, are the turns of a round. Each of the others has lines to do.
pub record AreParts (ts : List Course) (others : List (List Course)) (own : List Course) : Type 0 where
  pub whole : turns_of_parts others ++ own ≡ ts
  pub work : AllByRecursion SomeIsAtWork others

-- The own part is given to another, or it is not: all turns are still there, in their order, and each of the others has lines to do.
pub record SharesOn (others : List (List Course)) (own : List Course) (others' : List (List Course)) (own' : List Course) : Type 0 where
  pub whole : turns_of_parts others' ++ own' ≡ turns_of_parts others ++ own
  pub work : AllByRecursion SomeIsAtWork others → AllByRecursion SomeIsAtWork others'

-- The parts of the others were played, and the own one stands after them.
pub record AreGathered (opening : Opening) (others : List (List Course)) (own all : List Course) : Type 0 where
  pub played : List Course
  pub plays : PlayAll opening (turns_of_parts others) played
  pub whole : all ≡ played ++ own
