use Rattle.table_text.proofs.Live.{stands_for_store}
use Rattle.table_text.proofs.theorems.table_stands_for_store.Goals as goal

pub returns : goal.returns
returns c = stands_for_store
