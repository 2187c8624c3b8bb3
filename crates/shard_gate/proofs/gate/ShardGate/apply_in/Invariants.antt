-- The piece is not applied yet.
use Rattle.std.proofs.Common.{◌≡◌}
use Rattle.shard_gate.specs.Gates.{HoldsPiece, OnlyApplies}
use Rattle.shard_gate.proofs.gate.ShardGate.apply_in.Given as goal

abbrev pub invariant-loop : goal.invariant-loop
invariant-loop g l = record {
  table : g.H.Holder.table_id l.h ≡ g.H.Holder.table_id l.initial.h;
  only : OnlyApplies (g.H.Holder.view l.initial.h) (g.H.Holder.view l.h);
  pieces : (g.H.Holder.view l.h).pieces ≡ (g.H.Holder.view l.initial.h).pieces;
  piece : HoldsPiece (g.H.Holder.view l.h) l.shard l.piece;
}
