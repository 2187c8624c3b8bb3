use Rattle.memtable_shards.proofs.Answering.{shard_answers, shard_answers_all, shard_answers_below}
use Rattle.memtable_shards.proofs.theorems.shards_answer_as_the_store.Goals as goal

pub returns-clause-some : goal.returns-clause-some
returns-clause-some c = shard_answers

pub returns-clause-all : goal.returns-clause-all
returns-clause-all c = shard_answers_all

pub returns-clause-below : goal.returns-clause-below
returns-clause-below c = shard_answers_below
