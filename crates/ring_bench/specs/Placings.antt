-- What placing a batch leaves of a session's seat (docs/formats/ring.md, "The ring").
use Rattle.std.specs.Prelude.{◌≡◌, [], None}
use Rattle.atomic_table.specs.Seated.{TableId}
use Rattle.commit_queue.specs.declared.seats.SessionSeat.{SessionSeat}
use Rattle.commit_queue.specs.declared.view.View.{View}
use Rattle.commit_queue.specs.Calls.{HoldsAdmitted, HoldsUnapplied}
use Rattle.commit_queue.specs.Seats.{session_table, session_view, HoldsNothing}
use Rattle.ring_bench.specs.declared.locked.Placing.{Placing}
use Rattle.ring_bench.specs.declared.locked.Placing.TheVariants.{Adopted, Full, Over}

-- The seat holds no batch, so none of its pieces is applied, and it has no turn.
abbrev pub IsVacant : View → Type 0
IsVacant v = HoldsNothing v × (v.pieces ≡ [])

-- The session's seat holds a batch exactly if it adopted one. It is admitted, and none of its pieces is applied.
abbrev pub IsPlaced : Placing → View → Type 0
IsPlaced (Adopted pieces) v = HoldsAdmitted v × HoldsUnapplied v pieces × (v.seat.turn ≡ None)
IsPlaced Full v = IsVacant v
IsPlaced Over v = IsVacant v

-- A session's seat of this table that holds no batch and has no turn.
abbrev pub IsIdleOf : TableId → SessionSeat → Type 0
IsIdleOf table s = (session_table s ≡ table) × IsVacant (session_view s)
