use Rattle.std.proofs.Common.{◌≡◌, ◌<◌, ◌∷◌, [], length, get_or, arith, sym, ◌∙◌}
use Rattle.std.proofs.lemmas.Bool.{cond-true}
use Rattle.std.proofs.lemmas.Result.{on_err_weaker}
use Rattle.text_lines.specs.Printed.{printed_byte}
use Rattle.text_lines.proofs.Begins.{begins_append, begins_both, on_err}
use Rattle.text_lines.proofs.Runs.{waits_more, run_ends}
use Rattle.text_lines.proofs.printed.add_printed.Goals as goal
use Rattle.text_lines.proofs.printed.add_printed.Goals.{then-not-prints_as_itself+in_ok-append+in_ok-put_escaped, else-not-prints_as_itself}

pub loop-at-preserved : goal.loop-at-preserved
loop-at-preserved c =
    let below : c.loop-at.at < length c.args.bytes.now = omega arith in
    elim c.if-not-prints_as_itself.branch [
      | then-not-prints_as_itself+in_ok-append+in_ok-put_escaped w ↦ rw (w.start-is, w.out-is) (record {
        behind = omega arith;
        begins = begins_both c.args.out.now c.loop-at.out w.append-then-not-prints_as_itself.new.self w.put_escaped.new.out _ _ w.in_ok-append.ensures.ok w.in_ok-put_escaped.ensures.ok c.loop-at.invariant.begins;
        seen = run_ends c.loop-at.out w.append-then-not-prints_as_itself.new.self w.put_escaped.new.out c.args.out.now c.args.bytes.now c.loop-at.start c.loop-at.at below c.loop-at.invariant.behind w.in_ok-append.ensures.ok w.in_ok-put_escaped.ensures.ok c.loop-at.invariant.seen;
      })
      | else-not-prints_as_itself w ↦
          let plain : printed_byte (get_or c.args.bytes.now c.loop-at.at 0) ≡ get_or c.args.bytes.now c.loop-at.at 0 ∷ [] = cond-true _ _ _ (sym c.prints_as_itself.ensures ∙ w.if-not-prints_as_itself.false) in
          rw (w.start-is, w.out-is) (record {
            behind = omega arith;
            begins = c.loop-at.invariant.begins;
            seen = waits_more c.loop-at.out c.args.out.now c.args.bytes.now c.loop-at.start c.loop-at.at below c.loop-at.invariant.behind plain c.loop-at.invariant.seen;
          })
    ]

pub returns-in_err-append-clause-err : goal.returns-in_err-append-clause-err
returns-in_err-append-clause-err c =
    on_err c.from_residual.result (rw c.in_err-append.ensures.err c.loop-at.invariant.begins)

pub returns-in_err-put_escaped-clause-err : goal.returns-in_err-put_escaped-clause-err
returns-in_err-put_escaped-clause-err c =
    let begins = begins_append c.args.out.now c.loop-at.out _ c.loop-at.invariant.begins in
    on_err c.from_residual-in_err-put_escaped.result (rw (c.in_err-put_escaped.ensures.err, c.in_ok-append.ensures.ok) begins)

pub returns-clause-err : goal.returns-clause-err
returns-clause-err c =
    on_err_weaker c.append-2.result (λ is. rw is c.loop-at.invariant.begins) c.append-2.ensures.err
