use Rattle.std.proofs.Common.{◌∙◌, arith, sym}
use Rattle.batch_repr.specs.declared.limits.TheConstants.{NUMBER_FIRST}
use Rattle.wal_ship.proofs.Runs.{end_of_last, end_of_none, none_is_last}
use Rattle.wal_ship.proofs.follower.end_of_all.Goals as goal

pub end-requires : goal.end-requires
end-requires c = omega (arith, end_of_last NUMBER_FIRST c.args.batches.now c.in-Some.batch.now (sym c.in-Some.ensures.value), c.requires.within)

pub returns-in-Some : goal.returns-in-Some
returns-in-Some c = c.end.ensures ∙ sym (end_of_last NUMBER_FIRST c.args.batches.now c.in-Some.batch.now (sym c.in-Some.ensures.value))

pub returns-in-None : goal.returns-in-None
returns-in-None c = sym (end_of_none NUMBER_FIRST c.args.batches.now (none_is_last c.args.batches.now (sym c.in-None.ensures.value)))
