-- What is done after what was done.
use Rattle.disk_face.specs.View.{DiskView}
use Rattle.failover_writer.specs.State.{State}
use Rattle.failover_writer.specs.Outcome.{ComesTo, at_start, added, roomier, asked, stepped, stalled}

pub comes_further : {first mid : State} {before between : DiskView} {new : State} {after : DiskView} → ComesTo first before mid between
    → ComesTo mid between new after → ComesTo first before new after
comes_further one at_start = one
comes_further one (added m n v batch sync way pushes) = added m n v batch sync (comes_further one way) pushes
comes_further one (roomier m v spare way) = roomier m v spare (comes_further one way)
comes_further one (asked m v way) = asked m v (comes_further one way)
comes_further one (stepped m n v w answer way by) = stepped m n v w answer (comes_further one way) by
comes_further one (stalled m v w side polls way stalls) = stalled m v w side polls (comes_further one way) stalls
