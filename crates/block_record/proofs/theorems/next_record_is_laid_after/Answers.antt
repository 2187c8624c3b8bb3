use Rattle.block_record.proofs.Laid.{one_more}
use Rattle.block_record.proofs.theorems.next_record_is_laid_after.Goals as goal

pub returns : goal.returns
returns c = one_more
