-- The loop by which a layer above applies a batch's pieces.
use Rattle.std.proofs.Common.{sym, subst, ◌∙◌}
use Rattle.commit_queue.specs.declared.view.View.{View}
use Rattle.commit_queue.proofs.AppliesSome.{AppliesSome, all_applied, next_apart, next_gives, next_applied}
use Rattle.commit_queue.proofs.tests.apply_all.Goals as goal

pub apply-requires : goal.apply-requires
apply-requires g c = let v : View = g.H.Holder.view c.args.h.now in let v' : View = g.H.Holder.view c.loop-index.h in record {
  apart = next_apart v c.args.pieces c.requires.unapplied v' c.loop-index.pieces c.loop-index.invariant.applies
      c.in-Some.index c.in-Some.piece c.in-Some.ensures.next
      c.in-Some-take_shard.shard (g.H.Holder.view c.take_shard.new.h) c.in-Some-take_shard.ensures.taken;
}

pub give_shard-requires-clause-gives : goal.give_shard-requires-clause-gives
give_shard-requires-clause-gives g c = let v : View = g.H.Holder.view c.args.h.now in let v' : View = g.H.Holder.view c.loop-index.h in
    next_gives v c.args.pieces c.requires.unapplied v' c.loop-index.pieces c.loop-index.invariant.applies
    c.in-Some.index c.in-Some.piece c.in-Some.ensures.next
    c.in-Some-take_shard.shard c.apply.new.self (g.H.Holder.view c.take_shard.new.h) c.in-Some-take_shard.ensures.taken c.apply.ensures

pub loop-index-preserved : goal.loop-index-preserved
loop-index-preserved g c = let v : View = g.H.Holder.view c.args.h.now in let v' : View = g.H.Holder.view c.loop-index.h in
    let v2 : View = g.H.Holder.view c.give_shard.new.h in record {
      same = c.give_shard.ensures.same ∙ c.take_shard.ensures.same ∙ c.loop-index.invariant.same;
      applies = subst (AppliesSome v c.args.pieces v2) (sym c.in-Some.ensures.handed)
          (next_applied v c.args.pieces c.requires.unapplied v' c.loop-index.pieces c.loop-index.invariant.applies
          c.in-Some.index c.in-Some.piece c.in-Some.ensures.next
          c.in-Some-take_shard.shard (g.H.Holder.view c.take_shard.new.h) v2 c.in-Some-take_shard.ensures.taken c.give_shard.ensures.ended);
    }

pub returns-clause-applied : goal.returns-clause-applied
returns-clause-applied g c = let v : View = g.H.Holder.view c.args.h.now in let v' : View = g.H.Holder.view c.loop-index.h in
    all_applied v c.args.pieces c.requires.unapplied v' c.loop-index.pieces c.loop-index.invariant.applies c.in_default.ensures.none
