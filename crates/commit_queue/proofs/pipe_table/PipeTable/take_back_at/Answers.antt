use Rattle.std.proofs.Common.{ap, ◌∙◌}
use Rattle.commit_queue.specs.Tells.{Seated}
use Rattle.commit_queue.proofs.TakesBack.{takes_back}
use Rattle.commit_queue.proofs.Stands.{producer_takes_back}
use Rattle.commit_queue.proofs.pipe_table.PipeTable.take_back_at.Goals as goal

pub invariant_of-p : goal.invariant_of-p
invariant_of-p c = let p = c.args.p.now in let told = c.retire_at.ensures.told in let settled = c.settle_at.ensures in record {
  stands = producer_takes_back p.seat.id _ p.seat.me _ c.args.seat.me.0 p.head p.end p.turn p.stands
      (settled.same.1 ∙ c.retire_at.ensures.same.1) (settled.told.0 ∙ ap (λ (m : Seated). m.1) told)
      (takes_back p.seat.me.0 c.args.seat.me.0 _ _ (ap (λ (m : Seated). m.0) told) settled.told.1
      p.stands.kind c.requires.idle.0 c.requires.within);
}

pub returns-clause-back : goal.returns-clause-back
returns-clause-back c = let p = c.args.p.now in
    takes_back p.seat.me.0 c.args.seat.me.0 _ _ (ap (λ (m : Seated). m.0) c.retire_at.ensures.told)
    c.settle_at.ensures.told.1 p.stands.kind c.requires.idle.0 c.requires.within
