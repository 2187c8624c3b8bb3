-- What one step of the machine answers (docs/formats/ring.md, "The events of the ring").
use Rattle.std.specs.Prelude.{◌≡◌, ◌↔◌, Bool, IsTrue, IsFalse}
use Rattle.publish_core.specs.declared.seat.BatchShape.{BatchShape}
use Rattle.publish_core.specs.declared.machine.Core.{Core}
use Rattle.publish_core.specs.Kept.{kept_state}
use Rattle.publish_core.specs.Machine.{CoreState, Event}
use Rattle.publish_core.specs.Parts.{IsPossible, next_state}

-- the state that the machine is in
abbrev pub state_of : Core → CoreState BatchShape
state_of c = kept_state c.kept

-- an event is done exactly where it is possible, and else nothing changes
pub record Answers (s : CoreState BatchShape) (e : Event BatchShape) (b : Bool) (t : CoreState BatchShape)
    : Type 0 where
  pub possible : IsTrue b ↔ IsPossible s e
  pub done : IsTrue b → t ≡ next_state s e
  pub unchanged : IsFalse b → t ≡ s
