use Rattle.table_text.proofs.OneTable.{one_table}
use Rattle.table_text.proofs.theorems.bytes_have_one_table.Goals as goal

pub returns : goal.returns
returns c = one_table
