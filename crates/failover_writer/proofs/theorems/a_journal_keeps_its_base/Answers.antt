use Rattle.failover_writer.specs.State.{acked}
use Rattle.disk_face.specs.View.{files}
use Rattle.failover_writer.proofs.KeepsRun.{run_kept_now}
use Rattle.failover_writer.proofs.RecoversTo.{base_recovers, none_of_opening}
use Rattle.failover_writer.proofs.theorems.a_journal_keeps_its_base.Goals as goal

pub returns : goal.returns
returns c tells records base state v told stands keeps =
    base_recovers state.wal state.base records base (acked state) keeps.opening (files v) keeps.begun
    (run_kept_now tells records keeps.opening state v told stands
    (record { absent = none_of_opening state.wal state.base base keeps.opening keeps.begun; others = keeps.others told }))
