-- Nothing is in flight where neither an earlier segment nor the current one is busy.
use Rattle.std.proofs.Common.{ap}
use Rattle.failover_writer.specs.State.{JournalView}
use Rattle.failover_writer.proofs.PollsAt.{busy_found}
use Rattle.failover_writer.proofs.journal.Journal.is_busy.Goals as goal

pub returns-else-is_some-clause-busy : goal.returns-else-is_some-clause-busy
returns-else-is_some-clause-busy g c =
    busy_found c.seek_busy.result c.current_busy.result c.seek_busy.new.self.state c.args.self.now.state c.is_some-else-is_some.result
    (ap (λ (held : JournalView _). held.state) c.seek_busy.ensures.same) c.if-is_some.ensures
    c.is_some-else-is_some.ensures c.seek_busy.ensures.none c.current_busy.ensures.found c.current_busy.ensures.none
