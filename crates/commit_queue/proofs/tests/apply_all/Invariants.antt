-- The pieces that were handed out are applied, and no others.
use Rattle.std.specs.Prelude.{◌≡◌, ◌-◌}
use Rattle.memtable_shards.specs.declared.sharding.TheConstants.{SHARDS}
use Rattle.commit_queue.proofs.AppliesSome.{AppliesSome}
use Rattle.commit_queue.proofs.tests.apply_all.Given as goal

abbrev pub invariant-loop-index : goal.invariant-loop-index
invariant-loop-index g l = record {
  same : g.H.Holder.table_id l.h ≡ g.H.Holder.table_id l.initial.h;
  applies : AppliesSome (g.H.Holder.view l.initial.h) l.initial.pieces (g.H.Holder.view l.h) l.pieces;
}

abbrev pub decreases-loop-index : goal.decreases-loop-index
decreases-loop-index g l = SHARDS - l.pieces.from
