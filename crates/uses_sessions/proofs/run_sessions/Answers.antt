-- The base ends before the journal's first number.
use Rattle.batch_repr.specs.declared.limits.TheConstants.{NUMBER_FIRST}
use Rattle.commit_pipeline.proofs.Laws.{ends_before}
use Rattle.uses_sessions.proofs.run_sessions.Goals as goal

pub new-requires-clause-base : goal.new-requires-clause-base
new-requires-clause-base g c =
    ends_before NUMBER_FIRST c.args.found.next c.args.found.batches c.requires.numbered c.requires.next
