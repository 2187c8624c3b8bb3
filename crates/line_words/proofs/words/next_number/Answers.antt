use Rattle.std.proofs.Common.{arith, tests}
use Rattle.line_words.proofs.Numerals.{one_number}
use Rattle.line_words.proofs.words.next_number.Goals as goal

pub returns-else-contains-clause-none : goal.returns-else-contains-clause-none
returns-else-contains-clause-none c n rest is least most =
    let same = one_number c.args.words.now c.next.new.self rest c.in_ok-next.field-0.now c.in_ok-number.number n c.in_ok-number.ensures.some.1
    (omega (arith, most, c.ranges.most.fits)) c.in_ok-next.ensures.some c.in_ok-number.ensures.some.0 is in
    let cs = rw c.if-contains.false at c.contains.ensures.cases in
    grind (arith, tests, same, cs, least, most)
