-- No batch stands before.
use Rattle.wal_recovery.proofs.Base.{no_base}
use Rattle.wal_recovery.proofs.tests.Rig.recover_from.Goals as goal

pub recover_start-requires-clause-base : goal.recover_start-requires-clause-base
recover_start-requires-clause-base c = no_base c.args.number c.new-base.result c.new-base.ensures
