-- A part that is lent to a thread (docs/formats/program.md, "The run of a script").
use Rattle.std.specs.Prelude.{List, [], Option, Some, None, Vec}
use Rattle.std.specs.declared.alloc.Global.{Global}
use Rattle.commit_pipeline.specs.Openings.{Opening}
use Rattle.session_rounds.specs.declared.course.Course.{Course}
use Rattle.session_rounds.specs.Turns.{PlayAll}

-- its turns
abbrev pub turns_of : Option (Vec Course Global) → List Course
turns_of None = []
turns_of (Some part) = part.items

-- Those of one part are played, and stand in the other.
abbrev pub PlaysPart : Opening → Vec Course Global → Vec Course Global → Type 0
PlaysPart opening part part' = PlayAll opening part.items part'.items
