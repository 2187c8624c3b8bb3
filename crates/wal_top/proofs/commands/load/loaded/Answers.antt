-- The generated load is the work of the command.
use Rattle.std.proofs.Common.{List, sym, subst}
use Rattle.std.specs.Prelude.{IfOk}
use Rattle.session_replies.specs.Rounds.{NameSessions}
use Rattle.session_replies.specs.declared.script.Round.{Round}
use Rattle.made_load.specs.declared.load.TheConstants.{LOAD_SESSIONS}
use Rattle.made_load.proofs.Laws.{load_names_four, stalls_nothing}
use Rattle.command_line.specs.declared.command.TheConstants.{THRESHOLD_DEFAULT}
use Rattle.script_runner.specs.declared.work.Work.TheVariants as works
use Rattle.script_runner.specs.Runs.{StallNone}
use Rattle.wal_top.specs.Call.{change_in}
use Rattle.wal_top.specs.Load.{load_text}
use Rattle.wal_top.specs.Work.{SaysWork}
use Rattle.wal_top.proofs.Work.{says_worked}
use Rattle.wal_top.proofs.commands.load.loaded.Goals as goal

pub work_over-worked-requires-clause-sessions : goal.work_over-worked-requires-clause-sessions
work_over-worked-requires-clause-sessions g c κs within =
    subst (NameSessions LOAD_SESSIONS) (sym c.new-load.ensures) (load_names_four c.args.seed c.args.batches)

pub returns-clause-says : goal.returns-clause-says
returns-clause-says g c =
    subst (λ (l : List Round). IfOk c.work_said-said.result (λ s. SaysWork (works.Load l) THRESHOLD_DEFAULT (load_text c.args.seed c.args.batches) g.D.Disk.tells
    (change_in g.D.Disk.view c.args.disk c.work_over-worked.result.disk) s.status s.text)) c.new-load.ensures
    (says_worked _ THRESHOLD_DEFAULT (load_text c.args.seed c.args.batches) g.D.Disk.tells
    (change_in g.D.Disk.view c.args.disk c.work_over-worked.result.disk) c.work_over-worked.result.worked c.work_said-said.result
    c.work_over-worked.ensures.comes_to c.work_said-said.ensures)

pub returns-clause-leaves : goal.returns-clause-leaves
returns-clause-leaves g c = record {
  polls = c.work_over-worked.ensures.polls (subst StallNone (sym c.new-load.ensures) (stalls_nothing c.args.seed c.args.batches));
  others = c.work_over-worked.ensures.others;
}
