use Rattle.table_text.proofs.Prefixes.{no_other_table}
use Rattle.table_text.proofs.theorems.first_records_are_no_other_table.Goals as goal

pub returns : goal.returns
returns c = no_other_table
