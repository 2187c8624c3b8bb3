use Rattle.text_lines.proofs.Changing.{none_held}
use Rattle.text_lines.proofs.store.first_within.Goals as goal

pub returns-in-None-clause-none : goal.returns-in-None-clause-none
returns-in-None-clause-none c = none_held c.args.start c.args.end c.args.holding.now c.range.result c.in-None.ensures.steps.0 (c.range.ensures.between tt)
