-- The thread has no part.
use Rattle.std.specs.Prelude.{◌≡◌, None}
use Rattle.lent_work.specs.Ends.{work_of, IsWorkerOf}
use Rattle.session_rounds.proofs.handing.play_parts.Given as goal

abbrev pub invariant-loop : goal.invariant-loop
invariant-loop g l = IsWorkerOf l.desk l.worker × (work_of l.worker ≡ None)
