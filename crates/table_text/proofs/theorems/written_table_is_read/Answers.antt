use Rattle.table_text.proofs.OneTable.{written_is_read}
use Rattle.table_text.proofs.theorems.written_table_is_read.Goals as goal

pub returns : goal.returns
returns c = written_is_read
