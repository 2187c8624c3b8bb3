use Rattle.std.proofs.Common.{ap, ◌∙◌}
use Rattle.lent_work.specs.declared.rule.Side.TheVariants.{Works}
use Rattle.lent_work.proofs.Steps.{gives_back, worker_finds_none}
use Rattle.lent_work.proofs.desk.Desk.give_back.Goals as goal

pub push_as-requires-clause-rule : goal.push_as-requires-clause-rule
push_as-requires-clause-rule g c =
    let d = c.requires.done in let is = c.requires.desk.1 ∙ ap Works d.1 in
    (gives_back _ _ _ _ d.0 _ is d.2, worker_finds_none _ _ _ d.0 is)
