use Rattle.std.proofs.Common.{◌∷◌, ℕ, List, arith, sym, ap, ◌∙◌, subst}
use Rattle.std.specs.Prelude.{codes}
use Rattle.view_script.specs.declared.view_line.ViewLine.TheVariants.{Scan}
use Rattle.view_script.specs.Asking.{LineAsks, scan, scan_from}
use Rattle.view_script.proofs.asking.scan_of.Goals as goal

pub returns-then-has_two_words_at_most-clause-asks : goal.returns-then-has_two_words_at_most-clause-asks
returns-then-has_two_words_at_most-clause-asks c =
    let number = c.in_ok-hold.ensures.number in
    subst (λ (from : List ℕ). LineAsks c.args.line.now (Scan c.in_ok-hold.hold from)) (sym c.in_ok-from.ensures)
    (scan c.in_ok-hold.hold number.1 (c.requires ∙ ap (λ (words : List (List ℕ)). codes "scan" ∷ words) number.0))

pub returns-clause-asks : goal.returns-clause-asks
returns-clause-asks c =
    let number = c.in_ok-hold-2.ensures.number in
    let word = c.in_ok-from-2.ensures.word in
    scan_from c.in_ok-hold-2.hold c.in_ok-from-2.from (omega (arith, number.2)) word.1 (rw (c.requires, number.0, word.0))
