use Rattle.std.proofs.Common.{◌≡◌, None}
use Rattle.lent_work.specs.Ends.{lent, IsLenderOf}
use Rattle.lent_work.proofs.tests.lend_numbers.Given as goal

-- The end is of this desk, and nothing is lent.
abbrev pub invariant-loop-n : goal.invariant-loop-n
invariant-loop-n g l = IsLenderOf l.desk l.lender × (lent l.lender ≡ None)
