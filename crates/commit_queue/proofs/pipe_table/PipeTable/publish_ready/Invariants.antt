use Rattle.std.proofs.Common.{◌≡◌}
use Rattle.commit_queue.specs.Calls.{ViewGoesOn}
use Rattle.commit_queue.proofs.pipe_table.PipeTable.publish_ready.Given as goal

abbrev pub invariant-loop : goal.invariant-loop
invariant-loop l = record { same : l.s.seat.table_id ≡ l.initial.s.seat.table_id; on : ViewGoesOn l.initial.s.seat.me.0 l.s.seat.me.0 }
