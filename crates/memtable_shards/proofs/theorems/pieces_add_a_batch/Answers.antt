use Rattle.memtable_shards.proofs.Applying.{pieces_begin, next_is_new, next_applied, pieces_end}
use Rattle.memtable_shards.proofs.theorems.pieces_add_a_batch.Goals as goal

pub returns-clause-begin : goal.returns-clause-begin
returns-clause-begin c = pieces_begin

pub returns-clause-apart : goal.returns-clause-apart
returns-clause-apart c = next_is_new

pub returns-clause-step : goal.returns-clause-step
returns-clause-step c = next_applied

pub returns-clause-end : goal.returns-clause-end
returns-clause-end c = pieces_end
