use Rattle.commit_pipeline.proofs.Loading.{numbered_below}
use Rattle.commit_pipeline.proofs.parts.Parts.new.Goals as goal

pub new-requires-clause-below : goal.new-requires-clause-below
new-requires-clause-below c = numbered_below c.args.base c.args.next c.in_ok-shards.shards c.requires.base c.in_ok-shards.ensures.loaded
