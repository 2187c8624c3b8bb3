-- What the crates above cite of these proofs, and all that they may.
pub use Rattle.memtable_shards.proofs.Answering.{shard_answers, shard_answers_all, shard_answers_below}
pub use Rattle.memtable_shards.proofs.Applying.{empty_shards, next_applied, next_is_new, pieces_begin, pieces_end, shards_settled}
pub use Rattle.memtable_shards.proofs.Touching.{below_append, in_piece, in_versions, in_versions_take, next_is_piece, none_between, none_left, touched, touched_some, touches_below, version_within, versions_at, versions_take}
