use Rattle.table_text.proofs.OneTable.{no_part}
use Rattle.table_text.proofs.theorems.no_part_is_another_table.Goals as goal

pub returns : goal.returns
returns c = no_part
