use Rattle.std.proofs.Common.{ap, ◌∙◌}
use Rattle.lent_work.specs.declared.rule.Side.TheVariants.{Works}
use Rattle.lent_work.proofs.Steps.{takes}
use Rattle.lent_work.proofs.desk.Desk.take.Goals as goal

pub pop_as-requires-clause-rule : goal.pop_as-requires-clause-rule
pop_as-requires-clause-rule g c = (takes _ _ _ (c.requires.desk.1 ∙ ap Works c.requires.free), λ _ _ _ _. tt)
