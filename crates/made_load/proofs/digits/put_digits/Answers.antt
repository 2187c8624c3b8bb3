use Rattle.std.proofs.Common.{arith, length, rules}
use Rattle.made_load.specs.Load.{last_digits}
use Rattle.made_load.proofs.LoadMade.{digit_more, digits_done}
use Rattle.made_load.proofs.digits.put_digits.Goals as goal

pub loop-place-preserved : goal.loop-place-preserved
loop-place-preserved c = (
  search rules,
  digit_more c.args.base c.loop-place.place c.loop-place.rest c.digit.result c.loop-place.out
      (last_digits c.args.base (length c.args.out.now) c.args.number) c.loop-place-test.true (omega arith) (search rules)
      c.loop-place.invariant.1,
)

pub returns : goal.returns
returns c =
    digits_done c.args.base c.loop-place.place c.loop-place.rest c.loop-place.out (last_digits c.args.base (length c.args.out.now) c.args.number)
    (omega arith) c.loop-place.invariant.1
