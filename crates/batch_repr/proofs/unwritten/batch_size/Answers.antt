use Rattle.std.proofs.Common.{◌+◌, arith, rules}
use Rattle.batch_repr.proofs.Sizes.{none_sized, size_more, front_size, limits_more}
use Rattle.batch_repr.proofs.unwritten.batch_size.Goals as goal

pub loop-entry-init : goal.loop-entry-init
loop-entry-init c = (none_sized, (λ k d h. absurd (omega (arith, h))), omega arith)

pub overflow_add-size : goal.overflow_add-size
overflow_add-size c = omega (arith, c.loop-entry.invariant.2, c.entry_size-size.ensures.within)

pub returns-then-size-gt-BATCH_MAX-clause-none : goal.returns-then-size-gt-BATCH_MAX-clause-none
returns-then-size-gt-BATCH_MAX-clause-none c = λ fits. absurd (omega (
  arith,
  fits.size,
  front_size c.args.entries.now (c.loop-entry.entry-index + 1),
  size_more c.args.entries.now c.loop-entry.entry-index c.entry-item.result c.loop-entry-test.true c.entry-item.is,
  c.loop-entry.invariant.0,
  c.entry_size-size.ensures.size,
  c.if-size-gt-BATCH_MAX.true,
))

pub loop-entry-preserved : goal.loop-entry-preserved
loop-entry-preserved c = (
  omega (
    arith,
    size_more c.args.entries.now c.loop-entry.entry-index c.entry-item.result c.loop-entry-test.true c.entry-item.is,
    c.loop-entry.invariant.0,
    c.entry_size-size.ensures.size,
  ),
  limits_more c.args.entries.now c.loop-entry.entry-index c.entry-item.result c.loop-entry-test.true c.entry-item.is c.loop-entry.invariant.1
      (search rules),
  omega (arith, c.if-size-gt-BATCH_MAX.false),
)
