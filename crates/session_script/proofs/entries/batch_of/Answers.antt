use Rattle.session_script.proofs.EntriesSoFar.{no_batch, none_made}
use Rattle.session_script.proofs.entries.batch_of.Goals as goal

pub returns-clause-bad : goal.returns-clause-bad
returns-clause-bad c e = no_batch c.args.words.now c.in_ok-entries.entries c.in_ok-entries.ensures.ok
    (none_made c.of.result c.ok_or.result _ c.of.ensures.none c.ok_or.ensures.variant e)
