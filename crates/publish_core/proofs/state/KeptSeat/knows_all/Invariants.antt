use Rattle.std.proofs.Common.{ℕ, ◌<◌, IsTrue}
use Rattle.publish_core.specs.Machine.{Among}
use Rattle.publish_core.specs.Parts.{has_part}
use Rattle.publish_core.specs.Kept.{seat_of}
use Rattle.publish_core.proofs.state.KeptSeat.knows_all.Given as goal

-- the shards so far are known where the batch has entries
abbrev pub invariant-loop-shard : goal.invariant-loop-shard
invariant-loop-shard l = (k : ℕ) → k < l.shard → IsTrue (has_part l.shape k) → Among (record { batch = l.batch; shard = k }) (seat_of l.self).knows
