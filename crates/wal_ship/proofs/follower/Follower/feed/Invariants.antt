-- What was taken of the piece so far, and what is left of it.
use Rattle.std.proofs.Common.{◌≡◌, ◌≤◌, ◌+◌, ◌-◌, Some, length, drop}
use Rattle.wal_ship.specs.declared.fault.FollowFault.{FollowFault}
use Rattle.wal_ship.specs.Following.{TakesFront}
use Rattle.wal_ship.proofs.follower.Follower.feed.Given as goal

abbrev pub invariant-loop-self : goal.invariant-loop-self
invariant-loop-self l = record {
  local : l.self.local ≡ l.fn.self.local;
  fed : (l.fn.self.fed ≤ l.self.fed) × (l.self.fed + length l.rest ≡ l.fn.self.fed + length l.piece);
  rest : l.rest ≡ drop (l.self.fed - l.fn.self.fed) l.piece;
  takes : TakesFront l.fn.self l.self l.piece (l.self.fed - l.fn.self.fed);
  lasts : (fault : FollowFault) → l.fn.self.fault ≡ Some fault → l.self ≡ l.fn.self;
}

abbrev pub decreases-loop-self : goal.decreases-loop-self
decreases-loop-self l = length l.rest
