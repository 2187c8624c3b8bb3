use Rattle.wal_ship.proofs.Portions.{of_piece}
use Rattle.wal_ship.proofs.follower.Follower.take_some.Goals as goal

pub returns-then-ended-clause-takes : goal.returns-then-ended-clause-takes
returns-then-ended-clause-takes c = of_piece c.args.self.now c.take_past_end.new.self c.take_past_end.ensures c.args.piece.now c.requires.some
