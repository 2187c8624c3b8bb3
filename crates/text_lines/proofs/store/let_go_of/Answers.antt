use Rattle.std.proofs.Common.{sym, ap, ◌∙◌, arith}
use Rattle.std.specs.Ordering.{is_lt}
use Rattle.text_lines.specs.Holding.{held}
use Rattle.text_lines.proofs.Changing.{none_let_go, one_let_go}
use Rattle.text_lines.proofs.store.let_go_of.Goals as goal

pub returns-then-not-is_lt-clause-same : goal.returns-then-not-is_lt-clause-same
returns-then-not-is_lt-clause-same c key = none_let_go c.args.start.now c.args.end.now key (held c.args.holding.now key)
    (sym (ap is_lt c.cmp.ensures) ∙ sym c.is_lt.ensures ∙ c.if-not-is_lt.true)

pub loop-key-preserved : goal.loop-key-preserved
loop-key-preserved c = record {
  same = λ key. one_let_go c.args.start.now c.args.end.now c.in-Some.key.now c.loop-key.holding c.remove.new.self c.remove.ensures.updates c.in-Some.ensures.within key
      ∙ c.loop-key.invariant.same key;
  few = omega (arith, c.remove.ensures.len);
}
