use Rattle.flush_table.proofs.OneStore.{used_once}
use Rattle.flush_table.proofs.theorems.directories_use_one_table.Goals as goal

pub returns : goal.returns
returns c = used_once
