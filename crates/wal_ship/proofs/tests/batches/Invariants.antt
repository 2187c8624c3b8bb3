use Rattle.std.specs.Prelude.{All}
use Rattle.batch_repr.specs.Building.{HasSpelling}
use Rattle.wal_ship.proofs.tests.batches.Given as goal

abbrev pub invariant-loop-text : goal.invariant-loop-text
invariant-loop-text g l = All HasSpelling l.batches
