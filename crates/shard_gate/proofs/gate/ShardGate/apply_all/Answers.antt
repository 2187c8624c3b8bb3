use Rattle.std.proofs.Common.{◌∙◌, sym, subst, refl}
use Rattle.shard_gate.specs.Gates.{IsAmidPieces}
use Rattle.shard_gate.proofs.AppliesAll.{only_same, only_both, amid_begins, amid_next, amid_goes_on, amid_ends}
use Rattle.shard_gate.proofs.gate.ShardGate.apply_all.Goals as goal

pub loop-shard-init : goal.loop-shard-init
loop-shard-init g c = record {
  table = refl;
  only = only_same (g.H.Holder.view c.args.h.now);
  amid = amid_begins (g.H.Holder.view c.args.h.now) c.args.pieces c.requires.holds;
}

pub apply_in-requires-clause-piece : goal.apply_in-requires-clause-piece
apply_in-requires-clause-piece g c = amid_next (g.H.Holder.view c.loop-shard.h) c.loop-shard.pieces c.in-Some.shard c.in-Some.piece
    c.loop-shard.invariant.amid c.in-Some.ensures.next

pub loop-shard-preserved : goal.loop-shard-preserved
loop-shard-preserved g c = record {
  table = c.apply_in.ensures.same ∙ c.loop-shard.invariant.table;
  only = only_both (g.H.Holder.view c.args.h.now) (g.H.Holder.view c.loop-shard.h) (g.H.Holder.view c.apply_in.new.h)
      c.loop-shard.invariant.only c.apply_in.ensures.applied.0;
  amid = subst (IsAmidPieces (g.H.Holder.view c.apply_in.new.h)) (sym c.in-Some.ensures.handed)
      (amid_goes_on (g.H.Holder.view c.loop-shard.h) (g.H.Holder.view c.apply_in.new.h) c.loop-shard.pieces c.in-Some.shard
      c.in-Some.piece c.loop-shard.invariant.amid c.in-Some.ensures.next c.apply_in.ensures.applied);
}

pub returns-clause-applied : goal.returns-clause-applied
returns-clause-applied g c =
    let only = c.loop-shard.invariant.only in (
      only,
      λ index held. amid_ends (g.H.Holder.view c.loop-shard.h) c.loop-shard.pieces c.loop-shard.invariant.amid c.in_default.ensures.none
          index (only.held ∙ held),
    )
