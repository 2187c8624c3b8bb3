use Rattle.failover_writer.proofs.IsOpening.{stable_opens}
use Rattle.failover_writer.proofs.theorems.stable_files_open_a_journal.Goals as goal

pub returns : goal.returns
returns c = stable_opens
