use Rattle.wal_ship.proofs.Outcomes.{bytes_come_to_one}
use Rattle.wal_ship.proofs.theorems.followers_come_to_one.Goals as goal

pub returns : goal.returns
returns c = bytes_come_to_one
