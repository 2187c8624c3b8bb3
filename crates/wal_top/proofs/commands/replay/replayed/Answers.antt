-- What was taken of the source decides what is said, and nothing but the journal is left.
use Rattle.std.proofs.Common.{refl, subst}
use Rattle.script_runner.specs.declared.work.Work.TheVariants as works
use Rattle.wal_top.specs.Call.{Invocation, call_of, change_in}
use Rattle.wal_top.specs.Replay.{replay_text, TakesScript}
use Rattle.wal_top.proofs.Saying.{ok_map}
use Rattle.wal_top.proofs.Untouched.{untouched_polls, untouched_wal}
use Rattle.wal_top.proofs.Work.{says_worked}
use Rattle.wal_top.proofs.Replay.{says_ran, says_unread}
use Rattle.wal_top.proofs.commands.replay.replayed.Goals as goal

pub work_over-worked-requires-clause-sessions : goal.work_over-worked-requires-clause-sessions
work_over-worked-requires-clause-sessions g c κs within =
    (subst (TakesScript (change_in g.S.Source.left c.args.src.now c.take_script.new.src) (change_in g.S.Source.faults c.args.src.now c.take_script.new.src))
    c.in-Ok-Script.field-0-is c.in-Ok-Script.ensures.takes).1

pub returns-in-Ok-Script-clause-says : goal.returns-in-Ok-Script-clause-says
returns-in-Ok-Script-clause-says g c =
    let call : Invocation = call_of g.S.Source.left g.S.Source.faults c.args.src.now c.take_script.new.src g.D.Disk.tells g.D.Disk.view c.args.disk c.work_over-worked.result.disk in
    let taken = subst (TakesScript call.left call.source_faults) c.in-Ok-Script.field-0-is c.in-Ok-Script.ensures.takes in
    ok_map c.work_said-said.result
    (says_worked (works.Script c.in-Ok-Script.script) c.args.threshold replay_text g.D.Disk.tells call.disk c.work_over-worked.result.worked c.work_said-said.result
    c.work_over-worked.ensures.comes_to c.work_said-said.ensures)
    (λ said says. says_ran c.args.threshold call said.text said.status (c.in-Ok-Script.script, taken.0, says))

pub returns-in-Ok-Script-clause-leaves : goal.returns-in-Ok-Script-clause-leaves
returns-in-Ok-Script-clause-leaves g c = record {
  took = c.in-Ok-Script.ensures.took;
  polls = λ none. c.work_over-worked.ensures.polls (none c.in-Ok-Script.script
      (subst (TakesScript (change_in g.S.Source.left c.args.src.now c.take_script.new.src) (change_in g.S.Source.faults c.args.src.now c.take_script.new.src))
      c.in-Ok-Script.field-0-is c.in-Ok-Script.ensures.takes).0);
  others = c.work_over-worked.ensures.others;
}

pub returns-in-Ok-Said-clause-says : goal.returns-in-Ok-Said-clause-says
returns-in-Ok-Said-clause-says g c =
    let call : Invocation = call_of g.S.Source.left g.S.Source.faults c.args.src.now c.take_script.new.src g.D.Disk.tells g.D.Disk.view c.args.disk c.args.disk in
    says_unread c.args.threshold call c.in-Ok-Said.said.text refl c.in-Ok-Said.said.status
    (subst (TakesScript call.left call.source_faults) c.in-Ok-Said.field-0-is c.in-Ok-Said.ensures.takes)

pub returns-in-Ok-Said-clause-leaves : goal.returns-in-Ok-Said-clause-leaves
returns-in-Ok-Said-clause-leaves g c = record {
  took = c.in-Ok-Said.ensures.took;
  polls = λ none. untouched_polls g.D.Disk.tells (change_in g.D.Disk.view c.args.disk c.args.disk) refl;
  others = untouched_wal g.D.Disk.tells (change_in g.D.Disk.view c.args.disk c.args.disk) refl;
}

pub returns-in-Err-clause-leaves : goal.returns-in-Err-clause-leaves
returns-in-Err-clause-leaves g c = record {
  took = c.in-Err.ensures.took;
  polls = λ none. untouched_polls g.D.Disk.tells (change_in g.D.Disk.view c.args.disk c.args.disk) refl;
  others = untouched_wal g.D.Disk.tells (change_in g.D.Disk.view c.args.disk c.args.disk) refl;
}
