use Rattle.std.proofs.Common.{subst, ap, ◌∙◌}
use Rattle.failover_writer.specs.State.{JournalView, broken_count}
use Rattle.failover_writer.specs.Sound.{CountsLeaveFew}
use Rattle.failover_writer.proofs.Accounted.{counts_leave_few}
use Rattle.failover_writer.proofs.journal.Journal.failed.Goals as goal

pub returns-clause-failed : goal.returns-clause-failed
returns-clause-failed g c = c.self.invariant.failed ∙ ap (λ (h : JournalView _). broken_count h.state) c.self.view_is

pub returns-clause-few : goal.returns-clause-few
returns-clause-few g c = subst (λ (h : JournalView _). CountsLeaveFew h.state) c.self.view_is (counts_leave_few _ c.self.invariant.sound)
