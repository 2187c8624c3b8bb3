use Rattle.std.proofs.Common.{ap, ◌∙◌}
use Rattle.lent_work.specs.declared.rule.Side.TheVariants.{Lends}
use Rattle.lent_work.proofs.Steps.{some_lent, takes_back}
use Rattle.lent_work.proofs.desk.Desk.take_back.Goals as goal

pub pop_as-requires-clause-rule : goal.pop_as-requires-clause-rule
pop_as-requires-clause-rule g c =
    let l = some_lent _ c.requires.lent in (takes_back _ _ _ l.0 (c.requires.desk.1 ∙ ap Lends l.1), λ _ _ _ _. tt)
