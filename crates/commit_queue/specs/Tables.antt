-- Which table a seat is of (docs/formats/ring.md, "The ring").
use Rattle.std.specs.Prelude.{◌≡◌}
use Rattle.atomic_table.specs.declared.shared.Seat as seats
use Rattle.atomic_table.specs.Seated.{TableId}
use Rattle.commit_queue.specs.declared.view.View.{View}
use Rattle.commit_queue.specs.declared.pipe_table.PipeTable.{PipeTable}
use Rattle.commit_queue.specs.Rule.{Slot}

-- a seat of a table, of whichever kind
abbrev pub TableSeat : Type 0
TableSeat = seats.Seat Slot View

-- what a table is known by
abbrev pub table_id_of : PipeTable → TableId
table_id_of table = table.table.shared.table_id

-- It is the id of this table.
abbrev pub IsOfTable : PipeTable → TableId → Type 0
IsOfTable table id = id ≡ table_id_of table

-- The seat is of this table.
abbrev pub IsSeatOf : PipeTable → TableSeat → Type 0
IsSeatOf table seat = IsOfTable table seat.table_id

-- They are one seat, before and after a step.
abbrev pub IsSameSeat : TableSeat → TableSeat → Type 0
IsSameSeat old new = (new.table_id ≡ old.table_id) × (new.id ≡ old.id)
