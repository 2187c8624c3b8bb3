use Rattle.std.proofs.Common.{sym, ◌∙◌}
use Rattle.wal_recovery.proofs.LastItem.{end_last, end_none}
use Rattle.wal_recovery.proofs.merging.next_after.Goals as goal

pub returns-in-Some : goal.returns-in-Some
returns-in-Some c = c.end.ensures ∙ end_last c.args.from c.args.batches.now c.in-Some.last.now (sym c.in-Some.ensures.value)

pub returns-in-None : goal.returns-in-None
returns-in-None c = end_none c.args.from c.args.batches.now (sym c.in-None.ensures.value)
