use Rattle.std.proofs.Common.{sym, subst, refl}
use Rattle.segment_merge.specs.Merging.{AscendByNumber}
use Rattle.segment_merge.proofs.Laws.{run_ascends}
use Rattle.batch_repr.specs.declared.limits.TheConstants.{NUMBER_FIRST}
use Rattle.wal_ship.proofs.Portions.{taken_none}
use Rattle.wal_ship.proofs.follower.Follower.new.Goals as goal

pub take_over-requires-clause-ascending : goal.take_over-requires-clause-ascending
take_over-requires-clause-ascending c =
    subst (λ from. AscendByNumber from c.args.local) (sym c.new-known.ensures.next) (run_ascends NUMBER_FIRST c.args.local c.requires.contiguous)

pub returns-clause-taken : goal.returns-clause-taken
returns-clause-taken c = taken_none _ c.new.ensures.batches refl c.new-2.ensures.items refl refl
