use Rattle.batch_repr.proofs.Laws.{has_spelling}
use Rattle.wal_ship.proofs.tests.batch.Goals as goal

pub returns : goal.returns
returns g c = (has_spelling c.in-Ok.batch).1 (c.args.text.now, c.in-Ok.ensures.found)
