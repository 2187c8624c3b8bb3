-- The pieces before the next one are applied.
use Rattle.std.proofs.Common.{◌≡◌, ◌-◌}
use Rattle.memtable_shards.specs.declared.sharding.TheConstants.{SHARDS}
use Rattle.shard_gate.specs.Gates.{IsAmidPieces, OnlyApplies}
use Rattle.shard_gate.proofs.gate.ShardGate.apply_all.Given as goal

abbrev pub invariant-loop-shard : goal.invariant-loop-shard
invariant-loop-shard g l = record {
  table : g.H.Holder.table_id l.h ≡ g.H.Holder.table_id l.initial.h;
  only : OnlyApplies (g.H.Holder.view l.initial.h) (g.H.Holder.view l.h);
  amid : IsAmidPieces (g.H.Holder.view l.h) l.pieces;
}

abbrev pub decreases-loop-shard : goal.decreases-loop-shard
decreases-loop-shard g l = SHARDS - l.pieces.from
