use Rattle.std.proofs.Common.{rules}
use Rattle.lent_work.specs.Desks.{made}
use Rattle.lent_work.proofs.Steps.{forks}
use Rattle.lent_work.proofs.desk.Desk.new.Goals as goal

pub ruled-requires-clause-rule : goal.ruled-requires-clause-rule
ruled-requires-clause-rule g c = made

pub another-works-requires-clause-rule : goal.another-works-requires-clause-rule
another-works-requires-clause-rule g c = forks _ _ _ (search rules)
