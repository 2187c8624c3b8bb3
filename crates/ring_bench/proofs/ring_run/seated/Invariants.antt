use Rattle.std.proofs.Common.{All}
use Rattle.std.specs.Prelude.{vec_len}
use Rattle.ring_bench.specs.Placings.{IsIdleOf}
use Rattle.ring_bench.proofs.ring_run.seated.Given as goal

abbrev pub invariant-loop-seat : goal.invariant-loop-seat
invariant-loop-seat g l = All (IsIdleOf g.N.RingName.table) l.seats.items

abbrev pub decreases-loop-seat : goal.decreases-loop-seat
decreases-loop-seat g l = vec_len l.seats
