use Rattle.flush_table.proofs.OneStore.{store_once}
use Rattle.flush_table.proofs.theorems.directories_have_one_store.Goals as goal

pub returns : goal.returns
returns c = store_once
