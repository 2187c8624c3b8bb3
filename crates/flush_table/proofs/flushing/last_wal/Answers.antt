use Rattle.flush_table.proofs.LastWal.{greatest_both}
use Rattle.flush_table.proofs.flushing.last_wal.Goals as goal

pub returns-in-Some-Some : goal.returns-in-Some-Some
returns-in-Some-Some c =
    greatest_both c.args.primary.now c.args.secondary.now c.in-Some-Some.one c.in-Some-Some.other c.max.result c.in-Some-Some.ensures c.in-Some-Some.ensures'
    c.max.ensures
