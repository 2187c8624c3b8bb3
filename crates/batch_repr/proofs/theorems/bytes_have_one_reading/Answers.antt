use Rattle.batch_repr.proofs.Agreement.{spelled_reads, same_batch, reads_no_fault, one_fault}
use Rattle.batch_repr.proofs.theorems.bytes_have_one_reading.Goals as goal

pub returns-clause-batch : goal.returns-clause-batch
returns-clause-batch c = λ bytes one other p q. same_batch bytes one other (spelled_reads bytes one p) (spelled_reads bytes other q)

pub returns-clause-fault : goal.returns-clause-fault
returns-clause-fault c = one_fault

pub returns-clause-not_both : goal.returns-clause-not_both
returns-clause-not_both c = λ bytes batch fault s f. reads_no_fault bytes batch fault (spelled_reads bytes batch s) f
