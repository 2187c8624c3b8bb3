-- What a seat brings about with the turn on a shard (docs/formats/ring.md, "The shards of the table").
use Rattle.std.specs.Prelude.{◌≡◌, ℕ, IsTrue, ◌∷◌}
use mathlib.Core.Option.{some}
use lib.ListN.{get_elem?}
use Rattle.publish_core.specs.declared.seat.BatchShape.{BatchShape}
use Rattle.publish_core.specs.declared.seat.Pair.{Pair}
use Rattle.publish_core.specs.Machine.{Among, CoreState, updated}
use Rattle.publish_core.specs.Parts.{has_part}

-- the batch i has entries in the shard k that are not applied there yet
abbrev pub CanApply : CoreState BatchShape → ℕ → ℕ → Type 0
CanApply s i k =
    (b : BatchShape)
    × (get_elem? s.batches i ≡ some b)
    × IsTrue (has_part b k)
    × (Among i (s.done k) → ⊥)

-- the state, once the seat j knows one more pair
abbrev pub learned : CoreState BatchShape → ℕ → Pair → CoreState BatchShape
learned s j p = let d = s.seats j in
    record s { seats = updated s.seats j (record d { knows = p ∷ d.knows }) }
