-- All that the steps keep, they keep one after another.
use Rattle.failover_writer.proofs.Survives.{survives}
use Rattle.failover_writer.proofs.Accounted.{counts_leave_few}
use Rattle.failover_writer.proofs.journal.Journal.settle.Goals as goal

pub returns-clause-survives : goal.returns-clause-survives
returns-clause-survives g c =
    let lasts = c.move_on-answer.ensures.moves.lasts in
    survives g.D.Disk.tells g.D.Disk.view c.args.self.now c.move_on-answer.new.self lasts.keeps lasts.passes

pub returns-clause-few : goal.returns-clause-few
returns-clause-few g c = counts_leave_few _ c.a_journal_at_hand.ensures.sound
