use Rattle.std.proofs.Common.{◌∙◌, ap}
use Rattle.commit_queue.specs.declared.view.View.{View}
use Rattle.commit_queue.specs.Views.{applied_view}
use Rattle.shard_gate.proofs.AppliesAll.{lacks_piece, gives_applied}
use Rattle.shard_gate.proofs.gate.ShardGate.try_apply.Goals as goal

pub apply-requires : goal.apply-requires
apply-requires g c = record {
  apart = lacks_piece (g.H.Holder.view c.args.h.now) (g.H.Holder.view c.take_shard.new.h) c.args.shard c.args.piece
      c.in-Some.taken c.requires.piece c.in-Some.ensures.taken;
}

pub give_shard-requires-clause-gives : goal.give_shard-requires-clause-gives
give_shard-requires-clause-gives g c =
    gives_applied (g.H.Holder.view c.args.h.now) (g.H.Holder.view c.take_shard.new.h) c.args.shard c.args.piece c.in-Some.taken
    c.apply.new.self c.requires.piece c.in-Some.ensures.taken c.apply.ensures

pub returns-clause-applied : goal.returns-clause-applied
returns-clause-applied g c = λ index held.
    let taken = c.in-Some.ensures.taken.view in (
      c.in-Some.taken,
      c.give_shard.ensures.ended index c.args.shard (ap (λ (v : View). v.seat.held) taken ∙ held) (ap (λ (v : View). v.seat.turn) taken)
          ∙ ap (λ (v : View). applied_view v index c.args.shard) taken,
    )
