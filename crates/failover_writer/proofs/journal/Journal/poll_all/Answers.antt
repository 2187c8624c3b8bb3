-- Each of the two polls is made or not, by what was found busy.
use Rattle.std.proofs.Common.{◌≡◌, ℕ, suc, Bool, Option, length, ap, sym, subst, ◌∙◌}
use Rattle.std.specs.Prelude.{◌||◌, IfSome}
use Rattle.failover_writer.specs.Moves.{IsBusyAt, IsFirstBusy, PollsAll}
use Rattle.failover_writer.proofs.PollsAll.{GoesEarly, GoesBoth, early_not, early_made, late_not, late_made}
use Rattle.failover_writer.proofs.journal.Journal.poll_all.Goals as goal
use Rattle.failover_writer.proofs.journal.Journal.poll_all.Goals.{in-Some, in-None, in-Some-current_busy, in-None-current_busy}

early-then : (g : _) (c : goal.Then-early g) → GoesEarly g.D.Disk.tells c.args.self.now.state c.match-seek_busy.self.state (g.D.Disk.view c.args.self.now.disk) (g.D.Disk.view c.match-seek_busy.self.disk) c.match-seek_busy.early
early-then g c = elim c.match-seek_busy.branch [
  | in-Some w ↦
      early_made g.D.Disk.tells g.D.Disk.view c.args.self.now c.seek_busy.new.self c.match-seek_busy.self w.poll-early.new.self c.match-seek_busy.early w.poll-early.result w.in-Some.index c.seek_busy.ensures.same w.self-is
      w.early-is (subst (λ (found : Option ℕ). IfSome found (λ (index : ℕ). IsFirstBusy index c.args.self.now.state)) w.in-Some.is c.seek_busy.ensures.found) w.poll-early.ensures.polled
      (record { keeps = w.poll-early.ensures.keeps; passes = w.poll-early.ensures.passes; goes = w.poll-early.ensures.goes_on })
  | in-None w ↦ early_not g.D.Disk.tells g.D.Disk.view c.args.self.now c.match-seek_busy.self c.match-seek_busy.early (w.self-is ∙ c.seek_busy.ensures.same) w.early-is (c.seek_busy.ensures.none w.in-None.is)
]

both-then : (g : _) (c : goal.Then-early g) → GoesBoth g.D.Disk.tells c.args.self.now.state c.match-current_busy.self.state (g.D.Disk.view c.args.self.now.disk) (g.D.Disk.view c.match-current_busy.self.disk)
    (c.match-seek_busy.early || c.match-current_busy.late)
both-then g c = elim c.match-current_busy.branch [
  | in-Some-current_busy w ↦
      let found = subst (λ (found : Option ℕ). IfSome found (λ (index : ℕ). (suc index ≡ length c.match-seek_busy.self.state.segments) × IsBusyAt index c.match-seek_busy.self.state)) w.in-Some-current_busy.is c.current_busy.ensures.found in
      late_made g.D.Disk.tells g.D.Disk.view c.args.self.now c.match-seek_busy.self c.match-current_busy.self w.poll-late.new.self c.match-seek_busy.early c.match-current_busy.late w.poll-late.result
      w.in-Some-current_busy.index (early-then g c) w.self-is w.late-is found.0 w.poll-late.ensures.polled
      (record { keeps = w.poll-late.ensures.keeps; passes = w.poll-late.ensures.passes; goes = w.poll-late.ensures.goes_on })
  | in-None-current_busy w ↦
      late_not g.D.Disk.tells g.D.Disk.view c.args.self.now c.match-seek_busy.self c.match-current_busy.self c.match-seek_busy.early c.match-current_busy.late (early-then g c) w.self-is w.late-is
      (c.current_busy.ensures.none w.in-None-current_busy.is)
]

pub returns-then-early-clause-polled : goal.returns-then-early-clause-polled
returns-then-early-clause-polled g c =
    subst (λ (b : Bool). PollsAll c.args.self.now.state c.match-current_busy.self.state (g.D.Disk.view c.args.self.now.disk) (g.D.Disk.view c.match-current_busy.self.disk) b)
    (ap (λ (b : Bool). b || c.match-current_busy.late) c.if-early.true ∙ sym c.if-early.true) (both-then g c).polls

pub returns-then-early-clause-passes : goal.returns-then-early-clause-passes
returns-then-early-clause-passes g c = (both-then g c).passes

early-else : (g : _) (c : goal.Else-early g) → GoesEarly g.D.Disk.tells c.args.self.now.state c.match-seek_busy.self.state (g.D.Disk.view c.args.self.now.disk) (g.D.Disk.view c.match-seek_busy.self.disk) c.match-seek_busy.early
early-else g c = elim c.match-seek_busy.branch [
  | in-Some w ↦
      early_made g.D.Disk.tells g.D.Disk.view c.args.self.now c.seek_busy.new.self c.match-seek_busy.self w.poll-early.new.self c.match-seek_busy.early w.poll-early.result w.in-Some.index c.seek_busy.ensures.same w.self-is
      w.early-is (subst (λ (found : Option ℕ). IfSome found (λ (index : ℕ). IsFirstBusy index c.args.self.now.state)) w.in-Some.is c.seek_busy.ensures.found) w.poll-early.ensures.polled
      (record { keeps = w.poll-early.ensures.keeps; passes = w.poll-early.ensures.passes; goes = w.poll-early.ensures.goes_on })
  | in-None w ↦ early_not g.D.Disk.tells g.D.Disk.view c.args.self.now c.match-seek_busy.self c.match-seek_busy.early (w.self-is ∙ c.seek_busy.ensures.same) w.early-is (c.seek_busy.ensures.none w.in-None.is)
]

both-else : (g : _) (c : goal.Else-early g) → GoesBoth g.D.Disk.tells c.args.self.now.state c.match-current_busy.self.state (g.D.Disk.view c.args.self.now.disk) (g.D.Disk.view c.match-current_busy.self.disk)
    (c.match-seek_busy.early || c.match-current_busy.late)
both-else g c = elim c.match-current_busy.branch [
  | in-Some-current_busy w ↦
      let found = subst (λ (found : Option ℕ). IfSome found (λ (index : ℕ). (suc index ≡ length c.match-seek_busy.self.state.segments) × IsBusyAt index c.match-seek_busy.self.state)) w.in-Some-current_busy.is c.current_busy.ensures.found in
      late_made g.D.Disk.tells g.D.Disk.view c.args.self.now c.match-seek_busy.self c.match-current_busy.self w.poll-late.new.self c.match-seek_busy.early c.match-current_busy.late w.poll-late.result
      w.in-Some-current_busy.index (early-else g c) w.self-is w.late-is found.0 w.poll-late.ensures.polled
      (record { keeps = w.poll-late.ensures.keeps; passes = w.poll-late.ensures.passes; goes = w.poll-late.ensures.goes_on })
  | in-None-current_busy w ↦
      late_not g.D.Disk.tells g.D.Disk.view c.args.self.now c.match-seek_busy.self c.match-current_busy.self c.match-seek_busy.early c.match-current_busy.late (early-else g c) w.self-is w.late-is
      (c.current_busy.ensures.none w.in-None-current_busy.is)
]

pub returns-else-early-clause-polled : goal.returns-else-early-clause-polled
returns-else-early-clause-polled g c =
    subst (λ (b : Bool). PollsAll c.args.self.now.state c.match-current_busy.self.state (g.D.Disk.view c.args.self.now.disk) (g.D.Disk.view c.match-current_busy.self.disk) b)
    (ap (λ (b : Bool). b || c.match-current_busy.late) c.if-early.false) (both-else g c).polls

pub returns-else-early-clause-passes : goal.returns-else-early-clause-passes
returns-else-early-clause-passes g c = (both-else g c).passes
