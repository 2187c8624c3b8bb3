use Rattle.std.proofs.Common.{◌≡◌, ◌∷◌, Err, ap}
use Rattle.line_words.specs.Words.{lines_of}
use Rattle.view_script.specs.Asking.{view_lines, without_empty_end}
use Rattle.view_script.proofs.AskedSoFar.{none_asked, line_more, all_asked, ends_asked, ends_bad}
use Rattle.view_script.proofs.reading.read_text.Goals as goal

pub loop-asked-init : goal.loop-asked-init
loop-asked-init c = rw (c.lines-lines.ensures.lines, c.new-asked.ensures) (none_asked (lines_of c.args.text.now))

pub returns-in-Err-Bad-clause-asked : goal.returns-in-Err-Bad-clause-asked
unfolding view_lines
returns-in-Err-Bad-clause-asked c =
    let left : c.loop-asked.lines ≡ c.in-Some.line ∷ c.next_part.new.self = rw c.in-Some.is at c.in_ok-line.ensures.some in
    let unchanged = c.in-Err-Bad.ensures.unchanged (ap (λ x. Err x) c.in-Err-Bad.field-0-is) in
    ends_asked (lines_of c.args.text.now) c.loop-asked.lines c.next_part.new.self c.loop-asked.asked c.loop-asked.number c.in-Some.line
    c.loop-asked.invariant left c.at_bad_line.result (rw unchanged at c.at_bad_line.ensures.ended)

pub returns-in-Err-Bad-clause-bad : goal.returns-in-Err-Bad-clause-bad
unfolding view_lines
returns-in-Err-Bad-clause-bad c =
    let left : c.loop-asked.lines ≡ c.in-Some.line ∷ c.next_part.new.self = rw c.in-Some.is at c.in_ok-line.ensures.some in
    ends_bad (lines_of c.args.text.now) c.loop-asked.lines c.next_part.new.self c.loop-asked.asked c.loop-asked.number c.in-Some.line
    c.loop-asked.invariant left (c.in-Err-Bad.ensures.bad (ap (λ x. Err x) c.in-Err-Bad.field-0-is)) c.at_bad_line.result
    c.at_bad_line.ensures.bad

pub loop-asked-preserved : goal.loop-asked-preserved
loop-asked-preserved c =
    let left : c.loop-asked.lines ≡ c.in-Some.line ∷ c.next_part.new.self = rw c.in-Some.is at c.in_ok-line.ensures.some in
    line_more (lines_of c.args.text.now) c.loop-asked.lines c.next_part.new.self c.loop-asked.asked c.loop-asked.number c.in-Some.line
    c.loop-asked.invariant left c.add_line.new.asked c.in-Ok.ensures.added

pub returns-clause-asked : goal.returns-clause-asked
unfolding view_lines without_empty_end
returns-clause-asked c =
    let none = rw c.in_default.is at c.in_ok-line.ensures.none in
    all_asked (lines_of c.args.text.now) c.loop-asked.lines c.loop-asked.asked c.loop-asked.number c.loop-asked.invariant
    (ap without_empty_end none.0)
