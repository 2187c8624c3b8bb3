-- The lines of a load are of its four sessions.
use Rattle.std.proofs.Common.{sym, subst}
use Rattle.session_replies.specs.Rounds.{NameSessions}
use Rattle.made_load.specs.declared.load.TheConstants.{LOAD_SESSIONS}
use Rattle.made_load.proofs.Laws.{load_names_four}
use Rattle.script_runner.proofs.tests.whole.check_load.Goals as goal

pub outcome_of-requires-clause-sessions : goal.outcome_of-requires-clause-sessions
outcome_of-requires-clause-sessions g c κs within =
    subst (NameSessions LOAD_SESSIONS) (sym c.new-load.ensures) (load_names_four 7 c.args.batches)
