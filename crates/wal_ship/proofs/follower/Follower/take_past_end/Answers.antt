use Rattle.std.proofs.Common.{ap, ◌∙◌}
use Rattle.wal_ship.specs.Following.{Following}
use Rattle.wal_ship.proofs.Portions.{past_byte}
use Rattle.wal_ship.proofs.follower.Follower.take_past_end.Goals as goal

pub returns : goal.returns
returns c = λ byte piece. rw (← c.self.view_is) (past_byte _ byte (ap (λ (f : Following). f.ended) c.self.view_is ∙ c.requires.ended) piece)
