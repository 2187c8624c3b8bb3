-- What the journal tells of the disk that the script stalls is told of the disk within.
use Rattle.std.proofs.Common.{◌≡◌, sym, ap, subst}
use Rattle.std.proofs.lemmas.Result.{IfOk-weaker}
use Rattle.disk_face.specs.View.{DiskView}
use Rattle.disk_face.specs.Script.{ScriptedDisk, TellsOf, BeginsOver}
use Rattle.disk_face.specs.Seen.{outer}
use Rattle.failover_writer.specs.State.{JournalView}
use Rattle.commit_pipeline.specs.Openings.{EndsBefore}
use Rattle.script_runner.specs.Works.{work_rounds}
use Rattle.script_runner.specs.Runs.{RunsWork, run_start, RunsOver}
use Rattle.script_runner.proofs.HandsOnOver.{polls_over, others_over}
use Rattle.script_runner.proofs.HasRun.{IsStarted, is_started}
use Rattle.script_runner.proofs.RunsOver.{runs_work}
use Rattle.script_runner.proofs.TellsOf.{polls_told, others_told}
use Rattle.script_runner.proofs.run.run_work.Goals as goal

pub run_over-outcome-requires-clause-base : goal.run_over-outcome-requires-clause-base
run_over-outcome-requires-clause-base g c κs within =
    subst (EndsBefore c.args.base) (sym (ap (λ (j : JournalView _). j.state.next) c.in-Ok.ensures.made)) c.requires.base

-- a disk that a script stalls, as it is seen
abbrev seen : {D : Type 0} → (D → DiskView) → ScriptedDisk D → DiskView
seen view d = outer view d

next_is : (g : _) (c : goal.After-into_inner-2 g) → c.in-Ok.journal.state.next ≡ c.args.next
next_is g c = ap (λ (j : JournalView _). j.state.next) c.in-Ok.ensures.made

before : (g : _) (c : goal.After-into_inner-2 g) → BeginsOver (g.D.Disk.view c.args.disk) (seen g.D.Disk.view c.in-Ok.journal.disk)
before g c = subst (λ (d : ScriptedDisk _). BeginsOver (g.D.Disk.view c.args.disk) (seen g.D.Disk.view d))
    (sym (ap (λ (j : JournalView _). j.disk) c.in-Ok.ensures.made)) c.new-stalled.ensures.begins

after : (g : _) (c : goal.After-into_inner-2 g) → TellsOf (g.D.Disk.view c.into_inner-2.result) (seen g.D.Disk.view c.run_over-outcome.result.journal.disk)
after g c = subst (λ (d : ScriptedDisk _). TellsOf (g.D.Disk.view c.into_inner-2.result) (seen g.D.Disk.view d)) c.into_disk-stalled.ensures
    c.into_inner-2.ensures.tells

started : (g : _) (c : goal.After-into_inner-2 g) → IsStarted c.args.threshold g.D.Disk.tells
    (run_start (seen g.D.Disk.view) (work_rounds c.args.work) c.in-Ok.journal) c.args.wal c.args.next (work_rounds c.args.work)
started g c =
    let made = c.in-Ok.ensures in
    is_started c.args.threshold g.D.Disk.tells (seen g.D.Disk.view) (work_rounds c.args.work) c.args.wal c.args.next c.new-stalled.result
    c.in-Ok.journal made.made made.stands made.others

pub returns-clause-polls : goal.returns-clause-polls
returns-clause-polls g c none =
    polls_told (g.D.Disk.view c.args.disk) (seen g.D.Disk.view c.in-Ok.journal.disk) (seen g.D.Disk.view c.run_over-outcome.result.journal.disk)
    (g.D.Disk.view c.into_inner-2.result) (before g c).tells (before g c).polls (after g c)
    (polls_over g.D.Disk.tells (seen g.D.Disk.view) (work_rounds c.args.work) c.in-Ok.journal c.run_over-outcome.result.journal none
    c.run_over-outcome.ensures.hands_on)

pub returns-clause-others : goal.returns-clause-others
returns-clause-others g c told =
    others_told (g.D.Disk.view c.args.disk) (seen g.D.Disk.view c.in-Ok.journal.disk) (seen g.D.Disk.view c.run_over-outcome.result.journal.disk)
    (g.D.Disk.view c.into_inner-2.result) (before g c).tells (before g c).polls (after g c) c.args.wal
    (others_over g.D.Disk.tells (seen g.D.Disk.view) (work_rounds c.args.work) c.in-Ok.journal c.run_over-outcome.result.journal
    c.args.threshold c.args.wal c.args.next (started g c) told c.run_over-outcome.ensures.hands_on)

pub returns-clause-ran : goal.returns-clause-ran
returns-clause-ran g c =
    let left = c.run_over-outcome.result.journal in
    IfOk-weaker c.run_over-outcome.result.outcome
    (RunsOver g.D.Disk.tells (seen g.D.Disk.view) c.args.base c.args.work c.in-Ok.journal left)
    (RunsWork c.args.base c.args.next c.args.work c.args.wal c.args.threshold g.D.Disk.tells (g.D.Disk.view c.args.disk) (g.D.Disk.view c.into_inner-2.result))
    (λ outcome ran. runs_work c.args.threshold g.D.Disk.tells (seen g.D.Disk.view) c.args.wal c.args.next c.args.base c.args.work
    c.in-Ok.journal left (g.D.Disk.view c.args.disk) (g.D.Disk.view c.into_inner-2.result) outcome (next_is g c) (before g c) (after g c) (started g c) ran)
    c.run_over-outcome.ensures.ran
