use Rattle.std.proofs.Common.{◌∙◌, refl}
use Rattle.commit_queue.specs.declared.view.View.{View}
use Rattle.commit_queue.proofs.GoesOn.{goes_on_same, goes_on_both, sees_goes_on, past_all, seen_few, seen_within}
use Rattle.commit_queue.proofs.pipe_table.PipeTable.publish_until.Goals as goal

pub loop-init : goal.loop-init
loop-init g c = record { same = refl; on = goes_on_same c.args.s.now.seat.me.0 }

pub returns-then-end-visible-clause-on : goal.returns-then-end-visible-clause-on
returns-then-end-visible-clause-on g c = let a : View = c.args.s.now.seat.me.0 in let l : View = c.loop.s.seat.me.0 in
    let v : View = c.publish_ready.new.s.seat.me.0 in let v' : View = c.visible.new.h.seat.me.0 in
    goes_on_both a v v' (goes_on_both a l v c.loop.invariant.on c.publish_ready.ensures.on)
    (sees_goes_on v v' c.visible.result c.visible.ensures.seen)

pub returns-then-end-visible-clause-published : goal.returns-then-end-visible-clause-published
returns-then-end-visible-clause-published g c = let a : View = c.args.s.now.seat.me.0 in let l : View = c.loop.s.seat.me.0 in
    let v : View = c.publish_ready.new.s.seat.me.0 in let v' : View = c.visible.new.h.seat.me.0 in
    let sees = c.visible.ensures.seen in record {
      within = seen_within v v' c.visible.result sees;
      few = seen_few v v' c.visible.result sees;
      past = λ n few end. past_all a v v' c.visible.result n c.args.end
          (goes_on_both a l v c.loop.invariant.on c.publish_ready.ensures.on)
          sees few end c.if-end-visible.true;
    }

pub loop-preserved : goal.loop-preserved
loop-preserved g c = let a : View = c.args.s.now.seat.me.0 in let l : View = c.loop.s.seat.me.0 in
    let v : View = c.publish_ready.new.s.seat.me.0 in let v' : View = c.visible.new.h.seat.me.0 in record {
      same = c.visible.ensures.same ∙ c.publish_ready.ensures.same ∙ c.loop.invariant.same;
      on = goes_on_both a v v' (goes_on_both a l v c.loop.invariant.on c.publish_ready.ensures.on)
          (sees_goes_on v v' c.visible.result c.visible.ensures.seen);
    }
