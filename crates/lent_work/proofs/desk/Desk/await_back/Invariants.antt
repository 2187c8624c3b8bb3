use Rattle.std.proofs.Common.{◌≡◌}
use Rattle.lent_work.specs.Ends.{lent, IsLenderOf}
use Rattle.lent_work.proofs.desk.Desk.await_back.Given as goal

-- The end is of this desk, and what it has lent is what it had lent at the start.
abbrev pub invariant-loop : goal.invariant-loop
invariant-loop g l = IsLenderOf l.self l.lender × (lent l.lender ≡ lent l.fn.lender)
