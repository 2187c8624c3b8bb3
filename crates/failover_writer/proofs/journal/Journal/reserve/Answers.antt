-- Room changes nothing of what the journal holds.
use Rattle.std.proofs.Common.{List, length, ap, refl, arith}
use Rattle.batch_repr.specs.declared.batch.Batch.{Batch}
use Rattle.failover_writer.proofs.StandsFor.{roomy_stands}
use Rattle.failover_writer.proofs.IsSoundJournal.{sound_beside}
use Rattle.failover_writer.proofs.journal.Journal.reserve.Goals as goal

pub invariant_of-self : goal.invariant_of-self
invariant_of-self g c =
    let in_order = c.self.invariant in
    record {
      stands = (
        in_order.stands.0,
        roomy_stands g.D.Disk.tells in_order.stands.0 _ c.reserve.new.self (g.D.Disk.view c.self.inside.disk)
            c.reserve.ensures.start c.reserve.ensures.records in_order.stands.1,
      );
      acked = in_order.acked;
      failed = in_order.failed;
      rested = in_order.rested;
      first_busy = in_order.first_busy;
      wal = in_order.wal;
      sound = sound_beside _ _ refl refl refl refl (λ none. omega (
        arith,
        none,
        c.reserve.ensures.start,
        ap (λ (bs : List Batch). length bs) c.reserve.ensures.records,
      )) in_order.sound;
    }
