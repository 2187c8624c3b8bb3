-- The journal steps, and the acked word follows it. An answer that tells of a death is counted.
use Rattle.std.proofs.Common.{ap}
use Rattle.commit_queue.specs.Seats.{flush_table, flush_seat_view}
use Rattle.record_flow.specs.Passes.{flush_queue, take_view}
use Rattle.commit_pipeline.specs.Ties.{Flushes}
use Rattle.commit_pipeline.specs.Sides.{FlushView}
use Rattle.commit_pipeline.proofs.Flushing.{marked_dead, tells_fault, flushes_driven, flushes_dead, acks_synced}
use Rattle.commit_pipeline.proofs.flush_side.FlushSide.step_once.Given.{Over}
use Rattle.commit_pipeline.proofs.flush_side.FlushSide.step_once.Goals.{After-raise_acked}
use Rattle.commit_pipeline.proofs.flush_side.FlushSide.step_once.Goals as goal

-- what holds behind the lock once the acked word has followed the step
followed : (g : Over) (c : After-raise_acked g)
    → Flushes g.D.Disk.tells g.N.PipeName.table g.N.PipeName.queue g.N.PipeName.opening c.step-answer.new.self.state
    (g.D.Disk.view c.step-answer.new.self.disk) (flush_table c.raise_acked.new.f) (flush_seat_view c.raise_acked.new.f)
    (flush_queue c.self.inside.pops) (take_view c.self.inside.pops) c.self.inside.answers.total
followed g c =
    let e = c.step-answer.ensures in
    let raise = c.raise_acked.ensures in
    flushes_driven e.lasts e.survives.keeps_base e.still raise.same c.acked-acked.result c.raise_acked.result raise.raised c.acked-acked.ensures
    c.self.invariant.0

pub invariant_of-self : goal.invariant_of-self
invariant_of-self g c = (followed g (goal.at.invariant_of-self g c).After-raise_acked, c.self.invariant.1)

pub invariant_of-self-then-acked-index : goal.invariant_of-self-then-acked-index
invariant_of-self-then-acked-index g c = (
  followed g (goal.at.invariant_of-self-then-acked-index g c).After-raise_acked,
  c.self.invariant.1,
)

pub invariant_of-self-in-Dead : goal.invariant_of-self-in-Dead
invariant_of-self-in-Dead g c = (
  flushes_dead (followed g (goal.at.invariant_of-self-in-Dead g c).After-raise_acked) _ c.count.new.book.total
      (marked_dead c.step-answer.new.self.state c.step-answer.ensures.dead c.in-Err-2.is c.in-Dead.is),
  c.self.invariant.1,
)

pub invariant_of-self-in-Err-2 : goal.invariant_of-self-in-Err-2
invariant_of-self-in-Err-2 g c = (followed g (goal.at.invariant_of-self-in-Err-2 g c).After-raise_acked, c.self.invariant.1)

pub returns-in-Dead-clause-fault : goal.returns-in-Dead-clause-fault
returns-in-Dead-clause-fault g c =
    tells_fault c.a_journal_at_hand.ensures.sound (marked_dead c.step-answer.new.self.state c.step-answer.ensures.dead c.in-Err-2.is c.in-Dead.is) c.in-Dead.is

pub returns-in-Dead-clause-acks : goal.returns-in-Dead-clause-acks
returns-in-Dead-clause-acks g c =
    acks_synced c.step-answer.new.self.state (ap (λ (l : FlushView _). l.seat) c.self.view_is) c.raise_acked.ensures.raised c.acked-acked.ensures
