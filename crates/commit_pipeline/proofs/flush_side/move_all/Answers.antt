-- A record found comes next after those taken, so the journal may take it.
use Rattle.std.proofs.Common.{◌∙◌}
use Rattle.record_flow.specs.Passes.{take_view}
use Rattle.commit_pipeline.specs.Sides.{MovesNodes}
use Rattle.commit_pipeline.specs.Ties.{IsNextTo}
use Rattle.commit_pipeline.proofs.Flushing.{next_to_more, moves_more}
use Rattle.commit_pipeline.proofs.flush_side.move_all.Given.{Over}
use Rattle.commit_pipeline.proofs.flush_side.move_all.Goals.{After-push_node}
use Rattle.commit_pipeline.proofs.flush_side.move_all.Goals as goal

-- the next one found is still the journal's next
next_one : (g : Over) (c : After-push_node g) → IsNextTo (take_view c.take.new.pass) c.push_node.new.self.state
next_one g c =
    let (f, is) = c.in-Some-take.ensures.filled in
    next_to_more (take_view c.loop.pops) (take_view c.take.new.pass) c.loop.journal.state c.push_node.new.self.state f
    (c.in-Some-take.ensures.taken f is) (c.push_node.ensures.pushed f is) c.loop.invariant.next

-- one more was moved
moves_one : (g : Over) (c : After-push_node g)
    → MovesNodes g.D.Disk.tells g.D.Disk.view (take_view c.args.pops.now) c.args.journal.now (take_view c.take.new.pass) c.push_node.new.self
moves_one g c =
    let (f, is) = c.in-Some-take.ensures.filled in
    let e = c.push_node.ensures in
    moves_more g.D.Disk.tells g.D.Disk.view (take_view c.args.pops.now) c.args.journal.now (take_view c.loop.pops) c.loop.journal
    (take_view c.take.new.pass) c.push_node.new.self f c.loop.invariant.moves (c.in-Some-take.ensures.taken f is) (e.pushed f is) e.acked e.disk (e.keeps f is) e.keeps_base

pub loop-preserved : goal.loop-preserved
loop-preserved g c =
    let pushed = (goal.at.loop-preserved g c).After-push_node in
    record { same = c.in-Some-take.ensures.queue ∙ c.loop.invariant.same; next = next_one g pushed; moves = moves_one g pushed }
