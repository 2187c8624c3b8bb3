use Rattle.wal_ship.proofs.Streams.{streams_taken}
use Rattle.wal_ship.proofs.theorems.streams_are_taken.Goals as goal

pub returns : goal.returns
returns c = streams_taken
