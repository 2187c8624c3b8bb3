-- The writer at the place takes the answer, and every other one stays as it is.
use Rattle.std.proofs.Common.{true, false, ap, sym, subst, ◌∙◌, arith}
use Rattle.failover_writer.specs.State.{JournalView}
use Rattle.failover_writer.specs.Ranges.{StandsFor}
use Rattle.failover_writer.specs.Moves.{is_pending}
use Rattle.failover_writer.proofs.PollsAt.{answered_at, stands_polled, passes_polled, order_polled, failed_polled, polls_at, same_broken, more_broken, whole_pending, whole_done, broken_failed}
use Rattle.failover_writer.proofs.journal.Journal.poll.Goals as goal

pub returns-in-Pending-clause-polled : goal.returns-in-Pending-clause-polled
returns-in-Pending-clause-polled g c =
    let same = ap (λ (held : JournalView _). held.state) c.self.view_is in
    let is = answered_at _ c.args.self.now.state c.args.index c.index_mut-writer.result.now c.poll-answer.new.self c.poll-answer.result same c.requires.busy c.index_mut-writer.ensures.value c.poll-answer.ensures.answered
    c.poll-answer.ensures.synced in
    polls_at g.D.Disk.tells c.args.index _ c.args.self.now.state (g.D.Disk.view c.self.inside.disk) (g.D.Disk.view c.args.self.now.disk) (g.D.Disk.view c.poll-answer.new.disk) c.index_mut-writer.result.now
    c.poll-answer.new.self is.0 is.1 c.poll-answer.result true same (ap (λ (held : JournalView _). g.D.Disk.view held.disk) c.self.view_is) is.2 (c.poll-answer.ensures.polled is.0 is.1 is.2.phase) (c.poll-answer.ensures.takes is.0 is.1 is.2.phase) (c.poll-answer.ensures.asks is.0 is.1 is.2.phase) c.poll-answer.ensures.goes_on (sym (ap is_pending c.in-Pending.is))

pub returns-in-Pending-clause-keeps : goal.returns-in-Pending-clause-keeps
returns-in-Pending-clause-keeps g c records stands =
    let same = ap (λ (held : JournalView _). held.state) c.self.view_is in
    let is = answered_at _ c.args.self.now.state c.args.index c.index_mut-writer.result.now c.poll-answer.new.self c.poll-answer.result same c.requires.busy c.index_mut-writer.ensures.value c.poll-answer.ensures.answered
    c.poll-answer.ensures.synced in
    let before = subst (λ (held : JournalView _). StandsFor g.D.Disk.tells records held.state (g.D.Disk.view held.disk)) (sym c.self.view_is) stands in
    stands_polled g.D.Disk.tells records _ (g.D.Disk.view c.self.inside.disk) (g.D.Disk.view c.poll-answer.new.disk) c.args.index c.index_mut-writer.result.now c.poll-answer.new.self is.0 is.1 c.poll-answer.result is.2
    (c.poll-answer.ensures.fits records) c.poll-answer.ensures.others before

pub invariant_of-self : goal.invariant_of-self
invariant_of-self g c =
    let same = ap (λ (held : JournalView _). held.state) c.self.view_is in
    let is = answered_at _ c.args.self.now.state c.args.index c.index_mut-writer.result.now c.poll-answer.new.self c.poll-answer.result same c.requires.busy c.index_mut-writer.ensures.value c.poll-answer.ensures.answered
    c.poll-answer.ensures.synced in
    let count =
    same_broken c.self.inside.writers.items c.args.index c.index_mut-writer.result.now c.poll-answer.new.self is.0 is.1 c.poll-answer.result is.2
    (whole_pending c.self.inside.writers.items c.args.index c.index_mut-writer.result.now c.poll-answer.new.self is.0 is.1 c.poll-answer.result is.2 c.in-Pending.is) in
    order_polled g.D.Disk.tells _ (g.D.Disk.view c.self.inside.disk) (g.D.Disk.view c.poll-answer.new.disk) c.args.index c.index_mut-writer.result.now c.poll-answer.new.self is.0 is.1 c.poll-answer.result
    c.self.inside.acked c.self.inside.first_busy c.self.inside.failed c.max-self-inside.result c.self.inside.failed is.2 c.poll-answer.ensures.fits c.poll-answer.ensures.others (ap (λ (held : JournalView _). held.state.dead) c.self.view_is ∙ c.requires.lives) c.self.invariant
    (omega (arith, c.max-self-inside.ensures, c.synced.ensures)) (c.self.invariant.failed ∙ sym count)

pub returns-in-Done-clause-polled : goal.returns-in-Done-clause-polled
returns-in-Done-clause-polled g c =
    let same = ap (λ (held : JournalView _). held.state) c.self.view_is in
    let is = answered_at _ c.args.self.now.state c.args.index c.index_mut-writer.result.now c.poll-answer.new.self c.poll-answer.result same c.requires.busy c.index_mut-writer.ensures.value c.poll-answer.ensures.answered
    c.poll-answer.ensures.synced in
    polls_at g.D.Disk.tells c.args.index _ c.args.self.now.state (g.D.Disk.view c.self.inside.disk) (g.D.Disk.view c.args.self.now.disk) (g.D.Disk.view c.poll-answer.new.disk) c.index_mut-writer.result.now
    c.poll-answer.new.self is.0 is.1 c.poll-answer.result false same (ap (λ (held : JournalView _). g.D.Disk.view held.disk) c.self.view_is) is.2 (c.poll-answer.ensures.polled is.0 is.1 is.2.phase) (c.poll-answer.ensures.takes is.0 is.1 is.2.phase) (c.poll-answer.ensures.asks is.0 is.1 is.2.phase) c.poll-answer.ensures.goes_on (sym (ap is_pending c.in-Done.is))

pub returns-in-Done-clause-keeps : goal.returns-in-Done-clause-keeps
returns-in-Done-clause-keeps g c records stands =
    let same = ap (λ (held : JournalView _). held.state) c.self.view_is in
    let is = answered_at _ c.args.self.now.state c.args.index c.index_mut-writer.result.now c.poll-answer.new.self c.poll-answer.result same c.requires.busy c.index_mut-writer.ensures.value c.poll-answer.ensures.answered
    c.poll-answer.ensures.synced in
    let before = subst (λ (held : JournalView _). StandsFor g.D.Disk.tells records held.state (g.D.Disk.view held.disk)) (sym c.self.view_is) stands in
    stands_polled g.D.Disk.tells records _ (g.D.Disk.view c.self.inside.disk) (g.D.Disk.view c.poll-answer.new.disk) c.args.index c.index_mut-writer.result.now c.poll-answer.new.self is.0 is.1 c.poll-answer.result is.2
    (c.poll-answer.ensures.fits records) c.poll-answer.ensures.others before

pub invariant_of-self-in-Done : goal.invariant_of-self-in-Done
invariant_of-self-in-Done g c =
    let same = ap (λ (held : JournalView _). held.state) c.self.view_is in
    let is = answered_at _ c.args.self.now.state c.args.index c.index_mut-writer.result.now c.poll-answer.new.self c.poll-answer.result same c.requires.busy c.index_mut-writer.ensures.value c.poll-answer.ensures.answered
    c.poll-answer.ensures.synced in
    let count =
    same_broken c.self.inside.writers.items c.args.index c.index_mut-writer.result.now c.poll-answer.new.self is.0 is.1 c.poll-answer.result is.2
    (whole_done c.self.inside.writers.items c.args.index c.index_mut-writer.result.now c.poll-answer.new.self is.0 is.1 c.poll-answer.result is.2 c.in-Done.is) in
    order_polled g.D.Disk.tells _ (g.D.Disk.view c.self.inside.disk) (g.D.Disk.view c.poll-answer.new.disk) c.args.index c.index_mut-writer.result.now c.poll-answer.new.self is.0 is.1 c.poll-answer.result
    c.self.inside.acked c.self.inside.first_busy c.self.inside.failed c.max-self-inside.result c.self.inside.failed is.2 c.poll-answer.ensures.fits c.poll-answer.ensures.others (ap (λ (held : JournalView _). held.state.dead) c.self.view_is ∙ c.requires.lives) c.self.invariant
    (omega (arith, c.max-self-inside.ensures, c.synced.ensures)) (c.self.invariant.failed ∙ sym count)

pub returns-in-Failed-clause-polled : goal.returns-in-Failed-clause-polled
returns-in-Failed-clause-polled g c =
    let same = ap (λ (held : JournalView _). held.state) c.self.view_is in
    let is = answered_at _ c.args.self.now.state c.args.index c.index_mut-writer.result.now c.poll-answer.new.self c.poll-answer.result same c.requires.busy c.index_mut-writer.ensures.value c.poll-answer.ensures.answered
    c.poll-answer.ensures.synced in
    polls_at g.D.Disk.tells c.args.index _ c.args.self.now.state (g.D.Disk.view c.self.inside.disk) (g.D.Disk.view c.args.self.now.disk) (g.D.Disk.view c.poll-answer.new.disk) c.index_mut-writer.result.now
    c.poll-answer.new.self is.0 is.1 c.poll-answer.result false same (ap (λ (held : JournalView _). g.D.Disk.view held.disk) c.self.view_is) is.2 (c.poll-answer.ensures.polled is.0 is.1 is.2.phase) (c.poll-answer.ensures.takes is.0 is.1 is.2.phase) (c.poll-answer.ensures.asks is.0 is.1 is.2.phase) c.poll-answer.ensures.goes_on (sym (ap is_pending c.in-Failed.is))

pub returns-in-Failed-clause-keeps : goal.returns-in-Failed-clause-keeps
returns-in-Failed-clause-keeps g c records stands =
    let same = ap (λ (held : JournalView _). held.state) c.self.view_is in
    let is = answered_at _ c.args.self.now.state c.args.index c.index_mut-writer.result.now c.poll-answer.new.self c.poll-answer.result same c.requires.busy c.index_mut-writer.ensures.value c.poll-answer.ensures.answered
    c.poll-answer.ensures.synced in
    let before = subst (λ (held : JournalView _). StandsFor g.D.Disk.tells records held.state (g.D.Disk.view held.disk)) (sym c.self.view_is) stands in
    stands_polled g.D.Disk.tells records _ (g.D.Disk.view c.self.inside.disk) (g.D.Disk.view c.poll-answer.new.disk) c.args.index c.index_mut-writer.result.now c.poll-answer.new.self is.0 is.1 c.poll-answer.result is.2
    (c.poll-answer.ensures.fits records) c.poll-answer.ensures.others before

pub invariant_of-self-in-Failed : goal.invariant_of-self-in-Failed
invariant_of-self-in-Failed g c =
    let same = ap (λ (held : JournalView _). held.state) c.self.view_is in
    let is = answered_at _ c.args.self.now.state c.args.index c.index_mut-writer.result.now c.poll-answer.new.self c.poll-answer.result same c.requires.busy c.index_mut-writer.ensures.value c.poll-answer.ensures.answered
    c.poll-answer.ensures.synced in
    let count =
    more_broken c.self.inside.writers.items c.args.index c.index_mut-writer.result.now c.poll-answer.new.self is.0 is.1 c.poll-answer.result is.2
    (broken_failed c.self.inside.writers.items c.args.index c.index_mut-writer.result.now c.poll-answer.new.self is.0 is.1 c.poll-answer.result is.2 c.in-Failed.is) in
    let few = failed_polled g.D.Disk.tells _ (g.D.Disk.view c.self.inside.disk) c.self.inside.acked c.self.inside.first_busy c.self.inside.failed c.self.invariant in
    order_polled g.D.Disk.tells _ (g.D.Disk.view c.self.inside.disk) (g.D.Disk.view c.poll-answer.new.disk) c.args.index c.index_mut-writer.result.now c.poll-answer.new.self is.0 is.1 c.poll-answer.result
    c.self.inside.acked c.self.inside.first_busy c.self.inside.failed c.max-self-inside.result c.saturating_add-self-inside.result is.2 c.poll-answer.ensures.fits c.poll-answer.ensures.others (ap (λ (held : JournalView _). held.state.dead) c.self.view_is ∙ c.requires.lives) c.self.invariant
    (omega (arith, c.max-self-inside.ensures, c.synced.ensures)) (omega (arith, count, few, c.saturating_add-self-inside.ensures, c.self.invariant.failed))

pub returns-in-Pending-clause-passes : goal.returns-in-Pending-clause-passes
returns-in-Pending-clause-passes g c =
    let same = ap (λ (held : JournalView _). held.state) c.self.view_is in
    let is = answered_at _ c.args.self.now.state c.args.index c.index_mut-writer.result.now c.poll-answer.new.self c.poll-answer.result same c.requires.busy c.index_mut-writer.ensures.value c.poll-answer.ensures.answered
    c.poll-answer.ensures.synced in
    passes_polled g.D.Disk.tells _ c.args.self.now.state (g.D.Disk.view c.self.inside.disk) (g.D.Disk.view c.args.self.now.disk) (g.D.Disk.view c.poll-answer.new.disk) c.args.index c.index_mut-writer.result.now
    c.poll-answer.new.self is.0 is.1 c.poll-answer.result same (ap (λ (held : JournalView _). g.D.Disk.view held.disk) c.self.view_is) is.2 c.self.invariant.stands c.poll-answer.ensures.fits c.poll-answer.ensures.others
    (c.poll-answer.ensures.polled is.0 is.1 is.2.phase) c.poll-answer.ensures.goes_on

pub returns-in-Done-clause-passes : goal.returns-in-Done-clause-passes
returns-in-Done-clause-passes g c =
    let same = ap (λ (held : JournalView _). held.state) c.self.view_is in
    let is = answered_at _ c.args.self.now.state c.args.index c.index_mut-writer.result.now c.poll-answer.new.self c.poll-answer.result same c.requires.busy c.index_mut-writer.ensures.value c.poll-answer.ensures.answered
    c.poll-answer.ensures.synced in
    passes_polled g.D.Disk.tells _ c.args.self.now.state (g.D.Disk.view c.self.inside.disk) (g.D.Disk.view c.args.self.now.disk) (g.D.Disk.view c.poll-answer.new.disk) c.args.index c.index_mut-writer.result.now
    c.poll-answer.new.self is.0 is.1 c.poll-answer.result same (ap (λ (held : JournalView _). g.D.Disk.view held.disk) c.self.view_is) is.2 c.self.invariant.stands c.poll-answer.ensures.fits c.poll-answer.ensures.others
    (c.poll-answer.ensures.polled is.0 is.1 is.2.phase) c.poll-answer.ensures.goes_on

pub returns-in-Failed-clause-passes : goal.returns-in-Failed-clause-passes
returns-in-Failed-clause-passes g c =
    let same = ap (λ (held : JournalView _). held.state) c.self.view_is in
    let is = answered_at _ c.args.self.now.state c.args.index c.index_mut-writer.result.now c.poll-answer.new.self c.poll-answer.result same c.requires.busy c.index_mut-writer.ensures.value c.poll-answer.ensures.answered
    c.poll-answer.ensures.synced in
    passes_polled g.D.Disk.tells _ c.args.self.now.state (g.D.Disk.view c.self.inside.disk) (g.D.Disk.view c.args.self.now.disk) (g.D.Disk.view c.poll-answer.new.disk) c.args.index c.index_mut-writer.result.now
    c.poll-answer.new.self is.0 is.1 c.poll-answer.result same (ap (λ (held : JournalView _). g.D.Disk.view held.disk) c.self.view_is) is.2 c.self.invariant.stands c.poll-answer.ensures.fits c.poll-answer.ensures.others
    (c.poll-answer.ensures.polled is.0 is.1 is.2.phase) c.poll-answer.ensures.goes_on
