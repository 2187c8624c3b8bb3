-- A batch of the machine that is kept (docs/formats/ring.md, "The ring").
use Rattle.std.specs.Prelude.{ℕ, ◌/◌, ◌%◌, ◌^◌, Bool, ◌==◌}
use Rattle.publish_core.specs.declared.seat.BatchShape.{BatchShape}
use Rattle.publish_core.specs.Machine.{CoreState, Event, Possible, after}
use Rattle.publish_core.specs.Sound.{Sound}

-- how many numbers it takes
abbrev pub shape_count : BatchShape → ℕ
shape_count b = b.count

-- the bit k of its shards is set
abbrev pub has_part : BatchShape → ℕ → Bool
has_part b k = b.shards / 2 ^ k % 2 == 1

-- the state is sound, of these batches
abbrev pub IsSoundCore : CoreState BatchShape → Type 0
IsSoundCore s = ∥ Sound shape_count has_part s ∥₁

-- the event is possible in the state, of these batches
abbrev pub IsPossible : CoreState BatchShape → Event BatchShape → Type 0
IsPossible s e = Possible shape_count has_part s e

-- the state after the event, of these batches
abbrev pub next_state : CoreState BatchShape → Event BatchShape → CoreState BatchShape
next_state s e = after shape_count has_part s e
