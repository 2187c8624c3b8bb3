use Rattle.std.proofs.Common.{◌≡◌, ℕ, [], length, map, slice_index_or, vec_items}
use Rattle.publish_core.proofs.state.nothing_done.Given as goal

abbrev pub invariant-loop-shard : goal.invariant-loop-shard
invariant-loop-shard l = (length l.done.items ≡ l._shard) × ((k : ℕ) → slice_index_or (map vec_items l.done.items) k [] ≡ [])
