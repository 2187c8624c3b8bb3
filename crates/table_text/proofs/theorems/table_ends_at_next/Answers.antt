use Rattle.table_text.proofs.OneTable.{ends_at_next}
use Rattle.table_text.proofs.theorems.table_ends_at_next.Goals as goal

pub returns : goal.returns
returns c = ends_at_next
