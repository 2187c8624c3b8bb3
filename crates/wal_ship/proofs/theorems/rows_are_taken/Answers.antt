use Rattle.wal_ship.proofs.Outcomes.{rows_taken}
use Rattle.wal_ship.proofs.theorems.rows_are_taken.Goals as goal

pub returns : goal.returns
returns c = rows_taken
