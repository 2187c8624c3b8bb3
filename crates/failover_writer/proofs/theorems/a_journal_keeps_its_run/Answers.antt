use Rattle.failover_writer.proofs.KeepsRun.{run_kept_now}
use Rattle.failover_writer.proofs.theorems.a_journal_keeps_its_run.Goals as goal

pub returns : goal.returns
returns c = run_kept_now
