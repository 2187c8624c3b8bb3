-- What is polled, what goes on then, and what is released, one after another.
use Rattle.std.proofs.Common.{◌≡◌, Bool, Result, Ok, Err, ap, sym, subst, cond, rules}
use Rattle.failover_writer.specs.declared.fault.JournalFault.{JournalFault}
use Rattle.failover_writer.specs.declared.fault.Step.{Step}
use Rattle.failover_writer.specs.declared.fault.Step.TheVariants as steps
use Rattle.failover_writer.specs.Answered.{StepsBy}
use Rattle.failover_writer.proofs.Passes.{passes_further}
use Rattle.failover_writer.proofs.PassesOnce.{passes_all}
use Rattle.failover_writer.proofs.Verdicts.{rule_ended, rule_went}
use Rattle.failover_writer.proofs.journal.Journal.advance.Goals as goal

pub returns-in_err-go_on-clause-rule : goal.returns-in_err-go_on-clause-rule
returns-in_err-go_on-clause-rule g c =
    let fault : JournalFault = c.in_err-go_on.field-0.0 in
    let answers : c.from_residual.result ≡ Err fault = search rules in
    subst (λ (r : Result Step JournalFault). StepsBy c.args.self.now.state c.go_on.new.self.state (g.D.Disk.view c.args.self.now.disk)
    (g.D.Disk.view c.go_on.new.self.disk) r) (sym answers)
    (rule_ended c.args.self.now.state c.poll_all-waited.new.self.state c.go_on.new.self.state (g.D.Disk.view c.args.self.now.disk)
    (g.D.Disk.view c.poll_all-waited.new.self.disk) (g.D.Disk.view c.go_on.new.self.disk)
    c.poll_all-waited.result fault c.requires.up c.in_err-go_on.ensures.goes_on c.in_err-go_on.ensures.stalls c.in_err-go_on.ensures.quiet
    c.poll_all-waited.ensures.polled c.in_err-go_on.ensures.ended)

pub returns-in_err-go_on-clause-passes : goal.returns-in_err-go_on-clause-passes
returns-in_err-go_on-clause-passes g c =
    passes_further g.D.Disk.tells c.args.self.now.state c.poll_all-waited.new.self.state c.go_on.new.self.state
    (g.D.Disk.view c.args.self.now.disk) (g.D.Disk.view c.poll_all-waited.new.self.disk)
    (g.D.Disk.view c.go_on.new.self.disk) c.poll_all-waited.ensures.keeps c.in_err-go_on.ensures.goes_on c.poll_all-waited.ensures.passes
    c.in_err-go_on.ensures.passes

pub returns-then-waited-clause-rule : goal.returns-then-waited-clause-rule
returns-then-waited-clause-rule g c =
    subst (λ (b : Bool). StepsBy c.args.self.now.state c.release.new.self.state (g.D.Disk.view c.args.self.now.disk)
    (g.D.Disk.view c.release.new.self.disk) (Ok (cond b steps.Waited steps.Moved))) c.if-waited.true
    (rule_went c.args.self.now.state c.poll_all-waited.new.self.state c.go_on.new.self.state c.release.new.self.state
    (g.D.Disk.view c.args.self.now.disk) (g.D.Disk.view c.poll_all-waited.new.self.disk)
    (g.D.Disk.view c.go_on.new.self.disk) (g.D.Disk.view c.release.new.self.disk) c.poll_all-waited.result c.requires.up
    c.in_ok-go_on.ensures.goes_on c.in_ok-go_on.ensures.stalls (ap g.D.Disk.view c.release.ensures.disk)
    c.poll_all-waited.ensures.polled c.in_ok-go_on.ensures.went c.release.ensures.released)

pub returns-then-waited-clause-passes : goal.returns-then-waited-clause-passes
returns-then-waited-clause-passes g c =
    passes_all g.D.Disk.tells c.args.self.now.state c.poll_all-waited.new.self.state c.go_on.new.self.state c.release.new.self.state
    (g.D.Disk.view c.args.self.now.disk) (g.D.Disk.view c.poll_all-waited.new.self.disk)
    (g.D.Disk.view c.go_on.new.self.disk) (g.D.Disk.view c.release.new.self.disk) c.poll_all-waited.ensures.keeps
    c.in_ok-go_on.ensures.keeps c.in_ok-go_on.ensures.goes_on (ap g.D.Disk.view c.release.ensures.disk)
    c.poll_all-waited.ensures.passes c.in_ok-go_on.ensures.passes c.release.ensures.passes

pub returns-else-waited-clause-rule : goal.returns-else-waited-clause-rule
returns-else-waited-clause-rule g c =
    subst (λ (b : Bool). StepsBy c.args.self.now.state c.release.new.self.state (g.D.Disk.view c.args.self.now.disk)
    (g.D.Disk.view c.release.new.self.disk) (Ok (cond b steps.Waited steps.Moved))) c.if-waited.false
    (rule_went c.args.self.now.state c.poll_all-waited.new.self.state c.go_on.new.self.state c.release.new.self.state
    (g.D.Disk.view c.args.self.now.disk) (g.D.Disk.view c.poll_all-waited.new.self.disk)
    (g.D.Disk.view c.go_on.new.self.disk) (g.D.Disk.view c.release.new.self.disk) c.poll_all-waited.result c.requires.up
    c.in_ok-go_on.ensures.goes_on c.in_ok-go_on.ensures.stalls (ap g.D.Disk.view c.release.ensures.disk)
    c.poll_all-waited.ensures.polled c.in_ok-go_on.ensures.went c.release.ensures.released)

pub returns-else-waited-clause-passes : goal.returns-else-waited-clause-passes
returns-else-waited-clause-passes g c =
    passes_all g.D.Disk.tells c.args.self.now.state c.poll_all-waited.new.self.state c.go_on.new.self.state c.release.new.self.state
    (g.D.Disk.view c.args.self.now.disk) (g.D.Disk.view c.poll_all-waited.new.self.disk)
    (g.D.Disk.view c.go_on.new.self.disk) (g.D.Disk.view c.release.new.self.disk) c.poll_all-waited.ensures.keeps
    c.in_ok-go_on.ensures.keeps c.in_ok-go_on.ensures.goes_on (ap g.D.Disk.view c.release.ensures.disk)
    c.poll_all-waited.ensures.passes c.in_ok-go_on.ensures.passes c.release.ensures.passes
