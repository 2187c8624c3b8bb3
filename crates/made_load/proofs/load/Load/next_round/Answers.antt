use Rattle.std.proofs.Common.{arith, sym, ◌∙◌}
use Rattle.made_load.proofs.LoadRounds.{next_of, left_none}
use Rattle.made_load.proofs.load.Load.next_round.Goals as goal

pub returns-then-self-div_ceil-clause-none : goal.returns-then-self-div_ceil-clause-none
returns-then-self-div_ceil-clause-none c =
    let none = left_none c.self.inside.seed c.self.inside.batches c.self.inside.given (omega arith) in
    (cc, cc)

pub returns-clause-some : goal.returns-clause-some
returns-clause-some c =
    sym c.self.view_is ∙ next_of c.self.inside.seed c.self.inside.batches c.self.inside.given c.min.result (omega arith) c.min.ensures
