use Rattle.wal_ship.proofs.Union.{frames_are_union}
use Rattle.wal_ship.proofs.theorems.frames_are_a_union.Goals as goal

pub returns : goal.returns
returns c = frames_are_union
