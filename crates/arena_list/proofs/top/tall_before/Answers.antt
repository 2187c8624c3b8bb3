-- It stands before the index.
use Rattle.std.proofs.Common.{◌-◌, inr, refl, arith}
use Rattle.arena_list.proofs.Tops.{before_there}
use Rattle.arena_list.proofs.top.tall_before.Goals as goal

pub returns-then-top-left : goal.returns-then-top-left
returns-then-top-left c =
    let left = c.loop-left.left in
    inr (_, before_there c.args.top.now c.args.index (left - 1) _ (omega (arith, c.loop-left.invariant, c.loop-left-test.true)) c.requires, c.if-top-left.true, refl)
