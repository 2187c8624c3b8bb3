-- A dead journal and an idle one stay as they are, and every other one does what its rule says.
use Rattle.std.proofs.Common.{◌≡◌, Some, None, Ok, ap, sym, subst, refl, arith}
use Rattle.disk_face.specs.Calls.{GoesOn}
use Rattle.failover_writer.specs.declared.fault.Step.TheVariants as steps
use Rattle.failover_writer.specs.State.{JournalView}
use Rattle.failover_writer.specs.Ranges.{Stands, KeepsRecords}
use Rattle.failover_writer.specs.Stepping.{was_dead, idle}
use Rattle.failover_writer.specs.Answered.{StepsBy}
use Rattle.failover_writer.specs.Keeping.{Passes}
use Rattle.failover_writer.specs.Lasting.{Lasts, Survives}
use Rattle.failover_writer.specs.Outcome.{at_start, stepped}
use Rattle.failover_writer.proofs.Passes.{passes_still}
use Rattle.failover_writer.proofs.Survives.{survives}
use Rattle.failover_writer.proofs.StepRule.{idle_of, waited_of, dead_of, harmed_of, smooth_of}
use Rattle.disk_face.proofs.Laws.{goes_on_from}
use Rattle.failover_writer.specs.Sound.{CountsLeaveFew}
use Rattle.failover_writer.proofs.Accounted.{counts_leave_few}
use Rattle.failover_writer.proofs.Covers.{rose_by_none}
use Rattle.failover_writer.proofs.Failures.{covers_of, unstalled_of}
use Rattle.failover_writer.proofs.Hangs.{hangs_of}
use Rattle.failover_writer.proofs.Falls.{falls}
use Rattle.failover_writer.proofs.Lasts.{goal_kept, lasts_none, records_are}
use Rattle.failover_writer.proofs.journal.Journal.step.Goals as goal

pub returns-in-Some-clause-rule : goal.returns-in-Some-clause-rule
returns-in-Some-clause-rule g c = record {
  one = None;
  other = None;
  rule = was_dead c.in-Some.mark.side c.in-Some.mark.faults (subst (λ (held : JournalView _). held.state.dead ≡ Some c.in-Some.mark)
      c.self.view_is c.in-Some.is);
  one_told = tt;
  other_told = tt;
  taken = omega arith;
  counted = rose_by_none (g.D.Disk.view c.args.self.now.disk) (g.D.Disk.view c.args.self.now.disk) (goes_on_from (g.D.Disk.view c.args.self.now.disk));
  asks = refl;
}

pub returns-then-not-is_up-clause-rule : goal.returns-then-not-is_up-clause-rule
returns-then-not-is_up-clause-rule g c =
    subst (λ (held : JournalView _). StepsBy c.args.self.now.state held.state (g.D.Disk.view c.args.self.now.disk) (g.D.Disk.view held.disk)
    (Ok steps.Idle)) (sym c.if-not-is_up.ensures.same) (record {
      one = None;
      other = None;
      rule = idle (subst (λ (held : JournalView _). held.state.dead ≡ None) c.self.view_is c.in_default.is) c.if-not-is_up.ensures.up.0
          c.if-not-is_up.ensures.up.1;
      one_told = tt;
      other_told = tt;
      taken = omega arith;
      counted = rose_by_none (g.D.Disk.view c.args.self.now.disk) (g.D.Disk.view c.args.self.now.disk) (goes_on_from (g.D.Disk.view c.args.self.now.disk));
      asks = refl;
    })

-- the step that `advance` did
steps_by : (g : _) (c : goal.After-a_journal_at_hand g) → StepsBy c.args.self.now.state c.advance-answer.new.self.state (g.D.Disk.view c.args.self.now.disk)
    (g.D.Disk.view c.advance-answer.new.self.disk) c.advance-answer.result
steps_by g c =
    subst (λ (held : JournalView _). StepsBy held.state c.advance-answer.new.self.state (g.D.Disk.view held.disk)
    (g.D.Disk.view c.advance-answer.new.self.disk) c.advance-answer.result) c.is_up.ensures.same c.advance-answer.ensures.rule

pub returns-clause-idle : goal.returns-clause-idle
returns-clause-idle g c = idle_of c.args.self.now.state c.advance-answer.new.self.state (g.D.Disk.view c.args.self.now.disk)
    (g.D.Disk.view c.advance-answer.new.self.disk) c.advance-answer.result (steps_by g c)

pub returns-clause-waited : goal.returns-clause-waited
returns-clause-waited g c = waited_of c.args.self.now.state c.advance-answer.new.self.state (g.D.Disk.view c.args.self.now.disk)
    (g.D.Disk.view c.advance-answer.new.self.disk) c.advance-answer.result (steps_by g c)

pub returns-clause-dead : goal.returns-clause-dead
returns-clause-dead g c = dead_of c.args.self.now.state c.advance-answer.new.self.state (g.D.Disk.view c.args.self.now.disk)
    (g.D.Disk.view c.advance-answer.new.self.disk) c.advance-answer.result (steps_by g c)

passes : (g : _) (c : goal.After-a_journal_at_hand g) → Passes g.D.Disk.tells c.args.self.now.state c.advance-answer.new.self.state
    (g.D.Disk.view c.args.self.now.disk) (g.D.Disk.view c.advance-answer.new.self.disk)
passes g c =
    subst (λ (held : JournalView _). Passes g.D.Disk.tells held.state c.advance-answer.new.self.state (g.D.Disk.view held.disk)
    (g.D.Disk.view c.advance-answer.new.self.disk)) c.is_up.ensures.same c.advance-answer.ensures.passes

keeps : (g : _) (c : goal.After-a_journal_at_hand g) → KeepsRecords g.D.Disk.tells g.D.Disk.view c.args.self.now c.advance-answer.new.self
keeps g c = subst (λ (held : JournalView _). KeepsRecords g.D.Disk.tells g.D.Disk.view held c.advance-answer.new.self) c.is_up.ensures.same c.advance-answer.ensures.keeps

goes_on : (g : _) (c : goal.After-a_journal_at_hand g) → GoesOn (g.D.Disk.view c.args.self.now.disk) (g.D.Disk.view c.advance-answer.new.self.disk)
goes_on g c = subst (λ (held : JournalView _). GoesOn (g.D.Disk.view held.disk) (g.D.Disk.view c.advance-answer.new.self.disk))
    c.is_up.ensures.same c.advance-answer.ensures.goes_on

-- ---- what it leaves as it was, and what is left to do

pub returns-then-not-is_up-clause-want : goal.returns-then-not-is_up-clause-want
returns-then-not-is_up-clause-want g c = ap (λ (held : JournalView _). held.state.want) c.if-not-is_up.ensures.same

pub returns-clause-want : goal.returns-clause-want
returns-clause-want g c = (goal_kept (steps_by g c).rule).want

pub returns-clause-falls : goal.returns-clause-falls
returns-clause-falls g c =
    let stands = subst (λ (held : JournalView _). Stands g.D.Disk.tells held.state (g.D.Disk.view held.disk)) c.self.view_is c.self.invariant.stands in
    falls c.args.self.now.state c.advance-answer.new.self.state (g.D.Disk.view c.args.self.now.disk) (g.D.Disk.view c.advance-answer.new.self.disk) c.advance-answer.result
    (omega (arith, stands.1.want, records_are g.D.Disk.tells stands.0 c.args.self.now.state (g.D.Disk.view c.args.self.now.disk) stands.1))
    stands.1.few (goes_on g c) (steps_by g c)

pub returns-in-Some-clause-lasts : goal.returns-in-Some-clause-lasts
returns-in-Some-clause-lasts g c = lasts_none g.D.Disk.tells g.D.Disk.view c.args.self.now

pub returns-then-not-is_up-clause-lasts : goal.returns-then-not-is_up-clause-lasts
returns-then-not-is_up-clause-lasts g c = subst (Lasts g.D.Disk.tells g.D.Disk.view c.args.self.now) (sym c.if-not-is_up.ensures.same)
    (lasts_none g.D.Disk.tells g.D.Disk.view c.args.self.now)

pub returns-clause-lasts : goal.returns-clause-lasts
returns-clause-lasts g c =
    let old = c.args.self.now in
    let new = c.advance-answer.new.self in
    let by = steps_by g c in
    record {
      comes = stepped old.state new.state (g.D.Disk.view old.disk) (g.D.Disk.view new.disk) c.advance-answer.result at_start by;
      setting = (goal_kept by.rule).keeps;
      acked = (passes g c).acked;
      harmed = harmed_of old.state new.state (g.D.Disk.view old.disk) (g.D.Disk.view new.disk) c.advance-answer.result by;
      smooth = smooth_of old.state new.state (g.D.Disk.view old.disk) (g.D.Disk.view new.disk) c.advance-answer.result by;
      covers = covers_of old.state new.state (g.D.Disk.view old.disk) (g.D.Disk.view new.disk) c.advance-answer.result by (goes_on g c);
      unstalled = unstalled_of old.state new.state (g.D.Disk.view old.disk) (g.D.Disk.view new.disk) c.advance-answer.result by;
      hangs = hangs_of old.state new.state (g.D.Disk.view old.disk) (g.D.Disk.view new.disk) c.advance-answer.result by;
      keeps = keeps g c;
      passes = passes g c;
      goes_on = goes_on g c;
    }

-- ---- what a stop leaves

pub returns-in-Some-clause-survives : goal.returns-in-Some-clause-survives
returns-in-Some-clause-survives g c =
    let old = c.args.self.now in
    survives g.D.Disk.tells g.D.Disk.view old old (λ records stands. stands)
    (passes_still g.D.Disk.tells old.state old.state (g.D.Disk.view old.disk) refl refl refl)

pub returns-then-not-is_up-clause-survives : goal.returns-then-not-is_up-clause-survives
returns-then-not-is_up-clause-survives g c =
    let old = c.args.self.now in
    subst (Survives g.D.Disk.tells g.D.Disk.view old) (sym c.if-not-is_up.ensures.same)
    (survives g.D.Disk.tells g.D.Disk.view old old (λ records stands. stands)
    (passes_still g.D.Disk.tells old.state old.state (g.D.Disk.view old.disk) refl refl refl))

pub returns-clause-survives : goal.returns-clause-survives
returns-clause-survives g c = survives g.D.Disk.tells g.D.Disk.view c.args.self.now c.advance-answer.new.self (keeps g c) (passes g c)

pub returns-in-Some-clause-few : goal.returns-in-Some-clause-few
returns-in-Some-clause-few g c = subst (λ (h : JournalView _). CountsLeaveFew h.state) c.self.view_is (counts_leave_few _ c.self.invariant.sound)

pub returns-then-not-is_up-clause-few : goal.returns-then-not-is_up-clause-few
returns-then-not-is_up-clause-few g c =
    subst (λ (h : JournalView _). CountsLeaveFew h.state) (sym c.if-not-is_up.ensures.same)
    (subst (λ (h : JournalView _). CountsLeaveFew h.state) c.self.view_is (counts_leave_few _ c.self.invariant.sound))

pub returns-clause-few : goal.returns-clause-few
returns-clause-few g c = counts_leave_few _ c.a_journal_at_hand.ensures.sound
