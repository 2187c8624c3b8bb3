use Rattle.std.proofs.Common.{arith}
use Rattle.view_script.specs.Asking.{get}
use Rattle.view_script.proofs.asking.get_of.Goals as goal

pub returns-clause-asks : goal.returns-clause-asks
returns-clause-asks c =
    let number = c.in_ok-hold.ensures.number in
    let word = c.in_ok-key.ensures.word in
    get c.in_ok-hold.hold c.in_ok-key.key (omega (arith, number.2)) word.1 (rw (number.0, word.0))
