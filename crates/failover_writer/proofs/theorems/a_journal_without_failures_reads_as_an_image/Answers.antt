use Rattle.failover_writer.proofs.ReadsAsImage.{reads_as_image}
use Rattle.failover_writer.proofs.theorems.a_journal_without_failures_reads_as_an_image.Goals as goal

pub returns : goal.returns
returns c = reads_as_image
