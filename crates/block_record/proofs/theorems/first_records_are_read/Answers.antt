use Rattle.block_record.proofs.ReadsPrefix.{first_are_read}
use Rattle.block_record.proofs.theorems.first_records_are_read.Goals as goal

pub returns : goal.returns
returns c = first_are_read
