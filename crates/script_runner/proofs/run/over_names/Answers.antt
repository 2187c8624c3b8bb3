-- The work is done over the pipeline, and what it held is told of its journal.
use Rattle.std.proofs.Common.{Bool, ℕ, IsTrue, ap, sym, subst}
use Rattle.failover_writer.specs.Outcome.{JournalOutcome}
use Rattle.commit_pipeline.specs.Openings.{Opening}
use Rattle.commit_pipeline.specs.Parts.{AreNew}
use Rattle.session_rounds.proofs.Laws.{none_played}
use Rattle.script_runner.specs.Works.{work_rounds, halts}
use Rattle.script_runner.specs.Runs.{EndsJournal}
use Rattle.script_runner.proofs.AllowsStalls.{allowed}
use Rattle.script_runner.proofs.HandsOnOver.{handed_further}
use Rattle.script_runner.proofs.RunsOver.{runs_over}
use Rattle.script_runner.proofs.run.over_names.Goals as goal

pub perform-requires-clause-may : goal.perform-requires-clause-may
perform-requires-clause-may g c κs within =
    allowed g.N.PipeName.opening (work_rounds c.args.work)
    (λ some. subst IsTrue (sym (ap (λ (o : Opening). o.start.may_stall) c.requires.opening)) some)

pub returns-in-Ok-end_journal-clause-hands_on : goal.returns-in-Ok-end_journal-clause-hands_on
returns-in-Ok-end_journal-clause-hands_on g c =
    let ends = c.finish-journal.ensures in
    let left = c.finish-journal.result.journal in
    handed_further g.D.Disk.tells g.D.Disk.view (work_rounds c.args.work) c.args.journal left c.end_journal.new.journal ends.0
    (subst (λ (o : Opening). JournalOutcome g.D.Disk.tells o.start ends.0 left.state (g.D.Disk.view left.disk)) c.requires.opening ends.1.keeps)
    c.end_journal.ensures.goes_on

pub returns-in-Err-end_journal-clause-hands_on : goal.returns-in-Err-end_journal-clause-hands_on
returns-in-Err-end_journal-clause-hands_on g c =
    let ends = c.finish-journal.ensures in
    let left = c.finish-journal.result.journal in
    handed_further g.D.Disk.tells g.D.Disk.view (work_rounds c.args.work) c.args.journal left c.end_journal.new.journal ends.0
    (subst (λ (o : Opening). JournalOutcome g.D.Disk.tells o.start ends.0 left.state (g.D.Disk.view left.disk)) c.requires.opening ends.1.keeps)
    c.end_journal.ensures.goes_on

pub returns-in-Ok-end_journal-clause-ran : goal.returns-in-Ok-end_journal-clause-ran
returns-in-Ok-end_journal-clause-ran g c =
    let finished = c.finish-journal.result in
    let new = c.end_journal.new.journal in
    let ss = c.in-Ok.made.1.items in
    let fresh = c.in-Ok.ensures.sessions in
    let ended : EndsJournal g.D.Disk.view (halts c.args.work) finished.visible finished.batches finished.journal new c.in-Ok-end_journal.end =
    subst (λ (h : Bool). EndsJournal g.D.Disk.view h finished.visible finished.batches finished.journal new c.in-Ok-end_journal.end)
    c.halts-halted.ensures c.in-Ok-end_journal.ensures.ends in
    runs_over g.D.Disk.tells g.D.Disk.view c.args.parts.base c.args.work g.N.PipeName.opening c.args.journal finished.journal new
    c.in-Ok.made.1.items c.in-Ok-perform.done.0 finished.visible finished.batches c.in-Ok-perform.done.1 c.in-Ok-end_journal.end
    c.requires.opening (none_played g.N.PipeName.opening ss (subst (λ (n : ℕ). AreNew n ss) (sym fresh.all) fresh)) c.in-Ok-perform.ensures.done
    c.finish-journal.ensures c.end_journal.ensures.goes_on ended
