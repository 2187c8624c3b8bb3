use Rattle.std.proofs.Common.{ap, ◌∙◌}
use Rattle.lent_work.specs.declared.rule.Side.TheVariants.{Lends}
use Rattle.lent_work.proofs.Steps.{lends, lender_finds_none}
use Rattle.lent_work.proofs.desk.Desk.lend.Goals as goal

pub push_as-requires-clause-rule : goal.push_as-requires-clause-rule
push_as-requires-clause-rule g c = let is = c.requires.desk.1 ∙ ap Lends c.requires.free in (lends _ _ _ _ _ is, lender_finds_none _ _ _ is)
