use Rattle.block_record.proofs.Replay.{laid_is_read}
use Rattle.block_record.proofs.theorems.laid_records_are_read.Goals as goal

pub returns : goal.returns
returns c = laid_is_read
