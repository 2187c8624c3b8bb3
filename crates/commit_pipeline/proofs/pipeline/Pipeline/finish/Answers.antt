-- All that was sent is taken, and all seats have come back.
use Rattle.std.proofs.Common.{◌≡◌, sym, ap, ◌∙◌}
use Rattle.record_flow.specs.Passes.{send_queue, send_view, flush_queue, take_view}
use Rattle.commit_queue.specs.Seats.{producer_table, producer_view, flush_table, flush_seat_view}
use Rattle.commit_pipeline.specs.Sides.{FlushView}
use Rattle.commit_pipeline.proofs.Finishes.{finishes, taken_firsts}
use Rattle.commit_pipeline.proofs.pipeline.Pipeline.finish.Goals as goal

pub returns : goal.returns
returns g c =
    let was = c.next.inside in
    let log = c.log.inside in
    let own = c.gather.ensures.own in
    let died = c.gather.ensures.dead in
    let all_taken : (take_view log.pops).taken ≡ (send_view was.sends).sent =
    ap (λ (l : FlushView _). l.flow.taken) c.log.view_is ∙ c.take_last.ensures.all in (
      (producer_view was.producer).history,
      finishes g.D.Disk.tells g.N.PipeName.table g.N.PipeName.queue g.N.PipeName.opening log.journal.state (g.D.Disk.view log.journal.disk)
          (producer_table was.producer) (producer_view was.producer) (producer_view c.gather.new.producer) (producer_view c.retire.new.p)
          (send_queue was.sends) (send_view was.sends) was.next was.placed was.batches.total (flush_table log.flush) (flush_seat_view log.flush)
          (flush_queue log.pops) (take_view log.pops) log.answers.total c.args.sessions.items c.next.invariant.0 c.log.invariant.0 all_taken
          c.gather.ensures.back c.retire.ensures.back (sym own.1 ∙ c.audit.ensures.whole (own.0 ∙ c.requires.all.0))
          (sym died.1 ∙ c.audit-2.ensures.whole (died.0 ∙ c.requires.all.1)),
      taken_firsts g.D.Disk.tells g.N.PipeName.table g.N.PipeName.queue g.N.PipeName.opening log.journal.state (g.D.Disk.view log.journal.disk)
          (producer_table was.producer) (producer_view was.producer) (producer_view c.gather.new.producer) (producer_view c.retire.new.p)
          (send_queue was.sends) (send_view was.sends) was.next was.placed was.batches.total (flush_table log.flush) (flush_seat_view log.flush)
          (flush_queue log.pops) (take_view log.pops) log.answers.total c.args.sessions.items c.next.invariant.0 c.log.invariant.0 all_taken,
    )
