use Rattle.std.proofs.Common.{◌+◌, arith, sym, ◌∙◌}
use Rattle.made_load.proofs.EveryNth.{each_fourth, no_fifth}
use Rattle.made_load.proofs.every_nth.EveryNth.of_session.Goals as goal

pub returns-then-session : goal.returns-then-session
returns-then-session c = c.none.ensures ∙ sym (no_fifth c.args.seed c.args.session c.args.from c.args.count c.if-session.true)

pub returns : goal.returns
returns c =
    let first = c.args.from + c.args.session in
    sym (each_fourth c.args.seed c.args.session first c.args.from c.args.count first 0 c.div_ceil.result (omega arith) (omega arith) (omega arith)
    (omega arith) (omega (arith, c.div_ceil.ensures, c.saturating_sub.ensures)) (omega (arith, c.div_ceil.ensures, c.saturating_sub.ensures)))
