use Rattle.std.proofs.Common.{◌≡◌, ◌+◌, ◌∷◌, length, sym, ap, arith, Err, subst}
use Rattle.line_words.specs.Words.{lines_of}
use Rattle.session_script.specs.Script.{AreScript}
use Rattle.session_script.proofs.LinesSoFar.{no_line_so_far, line_more, first_refused, one_is_left, whole_script}
use Rattle.session_script.proofs.Counting.{few_numbers}
use Rattle.session_script.proofs.Naming.{names_its_sessions}
use Rattle.session_script.proofs.reading.read_text.Goals as goal

pub loop-draft-init : goal.loop-draft-init
loop-draft-init c = rw c.lines-lines.ensures.lines (no_line_so_far (lines_of c.args.text.now) c.new-draft.result c.new-draft.ensures)

pub overflow_add-number : goal.overflow_add-number
overflow_add-number c =
    let left : c.loop-draft.lines ≡ c.in-Some.line ∷ c.next_part.new.self = rw c.in-Some.is at c.in_ok-line.ensures.some in
    omega (
      arith,
      c.lines-lines.ensures.few,
      ap length c.lines-lines.ensures.lines,
      one_is_left (lines_of c.args.text.now) c.loop-draft.lines c.next_part.new.self c.loop-draft.draft c.loop-draft.number c.in-Some.line
          c.loop-draft.invariant left,
    )

pub loop-draft-preserved : goal.loop-draft-preserved
loop-draft-preserved c =
    let left : c.loop-draft.lines ≡ c.in-Some.line ∷ c.next_part.new.self = rw c.in-Some.is at c.in_ok-line.ensures.some in
    line_more (lines_of c.args.text.now) c.loop-draft.lines c.next_part.new.self c.loop-draft.draft c.loop-draft.number c.in-Some.line
    c.loop-draft.invariant left c.add_line.new.self c.in-Ok.ensures.added

pub returns-in-Err-Bad-clause-bad : goal.returns-in-Err-Bad-clause-bad
returns-in-Err-Bad-clause-bad c = λ n e.
    let left : c.loop-draft.lines ≡ c.in-Some.line ∷ c.next_part.new.self = rw c.in-Some.is at c.in_ok-line.ensures.some in
    let number : c.loop-draft.number + 1 ≡ n = cc in
    first_refused (lines_of c.args.text.now) c.loop-draft.lines c.next_part.new.self c.loop-draft.draft c.loop-draft.number c.in-Some.line
    c.loop-draft.invariant left n (c.in-Err-Bad.ensures.bad (ap (λ x. Err x) c.in-Err-Bad.field-0-is)) (sym number)

pub returns-clause-script : goal.returns-clause-script
returns-clause-script c =
    let none = rw c.in_default.is at c.in_ok-line.ensures.none in
    subst (AreScript (lines_of c.args.text.now)) (sym c.in_ok-finish.ensures)
    (whole_script (lines_of c.args.text.now) c.loop-draft.lines c.loop-draft.draft c.loop-draft.number c.loop-draft.invariant none.0)

pub returns-clause-sessions : goal.returns-clause-sessions
returns-clause-sessions c = names_its_sessions (lines_of c.args.text.now) c.in_ok-finish.field-0 (returns-clause-script c)

pub returns-clause-few : goal.returns-clause-few
returns-clause-few c = few_numbers c.args.text.now c.in_ok-finish.field-0 (returns-clause-script c)
