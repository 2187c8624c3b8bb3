use Rattle.table_text.proofs.WithinLimits.{live_within}
use Rattle.table_text.proofs.theorems.live_keys_are_within.Goals as goal

pub returns : goal.returns
returns c = live_within
