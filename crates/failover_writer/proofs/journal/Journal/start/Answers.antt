-- Nothing is begun, the queue is empty, and so the journal holds no record.
use Rattle.std.proofs.Common.{List, [], ap, sym, refl, arith}
use Rattle.std.specs.Prelude.{count_by}
use Rattle.failover_writer.specs.State.{is_broken, most_synced}
use Rattle.log_writer.specs.Writer.{Writer}
use Rattle.failover_writer.proofs.StandsFor.{nothing_stands}
use Rattle.std.proofs.Common.{subst}
use Rattle.failover_writer.specs.Sound.{AreAccounted}
use Rattle.failover_writer.proofs.Accounted.{none_accounted}
use Rattle.failover_writer.proofs.IsSoundJournal.{sound_alive}
use Rattle.failover_writer.proofs.journal.Journal.start.Goals as goal

pub returns-clause-stands : goal.returns-clause-stands
returns-clause-stands g c =
    nothing_stands g.D.Disk.tells _ (g.D.Disk.view c.args.disk) c.in-Ok-with_capacity.ensures.items c.in-Ok.ensures.start
    c.in-Ok.ensures.records refl refl c.requires.idle c.requires.absent c.requires.wal

pub invariant_of-result : goal.invariant_of-result
unfolding most_synced
invariant_of-result g c =
    let none = c.in-Ok-with_capacity.ensures.items in
    record {
      stands = ([], returns-clause-stands g c);
      acked = sym (ap (λ (ws : List Writer). most_synced 0 ws) none);
      failed = sym (ap (λ (ws : List Writer). count_by is_broken ws) none);
      rested = tt;
      first_busy = omega arith;
      wal = c.requires.wal;
      sound = sound_alive _ c.requires.threshold.0 c.requires.threshold.1 refl (λ _. none) (subst (λ (ws : List Writer). AreAccounted ws 0) (sym none) none_accounted);
    }
