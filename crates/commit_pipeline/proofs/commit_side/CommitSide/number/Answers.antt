-- The tests, and the batch that is entered and sent.
use Rattle.std.proofs.Common.{◌≡◌, ◌+◌, ◌≤◌, ℕ, ap, sym, subst, ◌∙◌, arith}
use Rattle.batch_repr.specs.declared.limits.TheConstants.{NUMBER_MAX, BATCHES_MAX}
use Rattle.batch_repr.specs.Batches.{end_of}
use Rattle.commit_queue.specs.Calls.{AwaitsBatch}
use Rattle.record_queue.specs.declared.node.Filled.{Filled}
use Rattle.record_flow.specs.Passes.{send_queue, send_view}
use Rattle.commit_queue.specs.Seats.{producer_table, producer_view, session_view}
use Rattle.commit_pipeline.specs.Ties.{Enrols}
use Rattle.commit_pipeline.proofs.Showing.{shows_all}
use Rattle.commit_pipeline.proofs.Enrols.{enrols_read, enrols_entered}
use Rattle.commit_pipeline.proofs.commit_side.CommitSide.number.Given.{Over}
use Rattle.commit_pipeline.proofs.commit_side.CommitSide.number.Goals.{After-add}
use Rattle.commit_pipeline.proofs.commit_side.CommitSide.number.Goals as goal

pub returns-then-self-ge-BATCHES_MAX-clause-told : goal.returns-then-self-ge-BATCHES_MAX-clause-told
returns-then-self-ge-BATCHES_MAX-clause-told g c =
    let p = producer_view c.self.inside.producer in
    let v = session_view c.args.desk.now.seat in
    let v' = session_view c.show.new.s in
    let enrols = c.self.invariant.0 in
    let full : c.self.inside.placed ≡ BATCHES_MAX = omega (arith, c.if-self-ge-BATCHES_MAX.true, enrols.few) in
    let awaits : AwaitsBatch p c.self.inside.next BATCHES_MAX = subst (AwaitsBatch p c.self.inside.next) full enrols.awaits in
    shows_all p v v' c.self.inside.next BATCHES_MAX awaits c.requires.desk.idle.0 c.show.ensures.shown

-- what holds behind the lock once the batch is entered and sent
entered_and_sent : (g : Over) (c : After-add g)
    → Enrols g.N.PipeName.table g.N.PipeName.queue g.N.PipeName.opening (producer_table c.enter-index.new.producer)
    (producer_view c.enter-index.new.producer) (send_queue c.send.new.sends) (send_view c.send.new.sends) c.end-self-inside.result
    (c.enter-index.result + 1) c.add.new.self.total
entered_and_sent g c =
    let read = enrols_read c.self.invariant.0 (producer_table c.slot_free.new.p) (producer_view c.slot_free.new.p) c.slot_free.result
    c.slot_free.ensures.same c.slot_free.ensures.read in
    let entered = c.enter-index.ensures in
    let f : Filled = record { rec = c.number-numbered.result; sync = c.args.sync } in
    let place : c.enter-index.result ≡ c.self.inside.placed = entered.index ∙ read.awaits.admitted in
    let ends : end_of f.rec ≡ c.end-self-inside.result = sym c.end-self-inside.ensures.end in
    let within : end_of f.rec ≤ NUMBER_MAX = omega (
      arith,
      ap end_of c.number-numbered.ensures,
      c.from.ensures,
      c.count.ensures.count,
      c.if-from-next.false,
      c.self.invariant.0.within,
    ) in
    subst (λ (n : ℕ). Enrols g.N.PipeName.table g.N.PipeName.queue g.N.PipeName.opening (producer_table c.enter-index.new.producer)
    (producer_view c.enter-index.new.producer) (send_queue c.send.new.sends) (send_view c.send.new.sends) n (c.enter-index.result + 1)
    c.add.new.self.total) ends
    (subst (λ (n : ℕ). Enrols g.N.PipeName.table g.N.PipeName.queue g.N.PipeName.opening (producer_table c.enter-index.new.producer)
    (producer_view c.enter-index.new.producer) (send_queue c.send.new.sends) (send_view c.send.new.sends) (end_of f.rec) (n + 1)
    c.add.new.self.total) (sym place)
    (enrols_entered read f (producer_table c.enter-index.new.producer) (producer_view c.enter-index.new.producer) (send_queue c.send.new.sends)
    (send_view c.send.new.sends) c.add.new.self.total entered.same_producer
    (subst (λ (n : ℕ). AwaitsBatch (producer_view c.enter-index.new.producer) (end_of f.rec) (n + 1)) place entered.awaits) entered.appends
    c.send.ensures.queue (c.send.ensures.sent f entered.node) within c.if-self-ge-BATCHES_MAX.false c.add.ensures.total))

pub invariant_of-self-2 : goal.invariant_of-self-2
invariant_of-self-2 g c = (entered_and_sent g (goal.at.invariant_of-self-2 g c).After-add, c.self.invariant.1)
