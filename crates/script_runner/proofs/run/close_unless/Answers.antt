-- A closing keeps what the journal kept, whatever it answers.
use Rattle.script_runner.proofs.GoesOnKept.{closed_on}
use Rattle.script_runner.proofs.run.close_unless.Goals as goal

pub returns-in-Ok-2-clause-goes_on : goal.returns-in-Ok-2-clause-goes_on
returns-in-Ok-2-clause-goes_on g c =
    closed_on g.D.Disk.tells g.D.Disk.view c.args.journal.now c.close.new.self c.close.ensures.lasts c.close.ensures.survives

pub returns-in-Ok-clause-goes_on : goal.returns-in-Ok-clause-goes_on
returns-in-Ok-clause-goes_on g c =
    closed_on g.D.Disk.tells g.D.Disk.view c.args.journal.now c.close.new.self c.close.ensures.lasts c.close.ensures.survives

pub returns-in-Err-NoMemory-clause-goes_on : goal.returns-in-Err-NoMemory-clause-goes_on
returns-in-Err-NoMemory-clause-goes_on g c =
    closed_on g.D.Disk.tells g.D.Disk.view c.args.journal.now c.close.new.self c.close.ensures.lasts c.close.ensures.survives
