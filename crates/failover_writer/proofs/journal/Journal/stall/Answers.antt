-- A stall changes neither an operation nor a file.
use Rattle.std.proofs.Common.{sym, subst}
use Rattle.failover_writer.specs.State.{JournalView}
use Rattle.failover_writer.specs.Ranges.{StandsFor}
use Rattle.failover_writer.proofs.StandsFor.{same_stands}
use Rattle.failover_writer.proofs.journal.Journal.stall.Goals as goal

pub invariant_of-self : goal.invariant_of-self
invariant_of-self g c =
    let in_order = c.self.invariant in
    record {
      stands = (
        in_order.stands.0,
        same_stands g.D.Disk.tells in_order.stands.0 _ (g.D.Disk.view c.self.inside.disk)
            (g.D.Disk.view c.stall.new.self) c.stall.ensures.same in_order.stands.1,
      );
      acked = in_order.acked;
      failed = in_order.failed;
      rested = in_order.rested;
      first_busy = in_order.first_busy;
      wal = in_order.wal;
      sound = in_order.sound;
    }

pub returns-clause-keeps : goal.returns-clause-keeps
returns-clause-keeps g c records stands =
    let before = subst (λ (held : JournalView _). StandsFor g.D.Disk.tells records held.state (g.D.Disk.view held.disk)) (sym c.self.view_is) stands in
    same_stands g.D.Disk.tells records _ (g.D.Disk.view c.self.inside.disk) (g.D.Disk.view c.stall.new.self) c.stall.ensures.same before
