use Rattle.std.proofs.Common.{◌≡◌, ◌++◌, Err, arith, length, subst, sym, rules, take}
use Rattle.std.proofs.lemmas.List.{length_push, take_all}
use Rattle.std.proofs.lemmas.Iterator.Consumers.{YieldsList-turn, YieldsList-end}
use Rattle.std.proofs.lemmas.Iterator.Adapters.{YieldsList-from_vec}
use Rattle.std.specs.Prelude.{List, ℕ}
use Rattle.segment_merge.specs.declared.segment.SegmentRead.{SegmentRead}
use Rattle.segment_merge.specs.Rows.{batches_in}
use Rattle.segment_merge.specs.Merging.{all_of}
use Rattle.segment_merge.specs.Steps.{KeepsLenient, RowAnswers}
use Rattle.segment_merge.proofs.LenientRows.{row_begun, row_goes_on, row_refused}
use Rattle.segment_merge.proofs.lenient.merge_row.Goals as goal

pub loop-segment-init : goal.loop-segment-init
loop-segment-init c = λ before k. row_begun before c.args.kept.now k

pub returns-in_err-merge_segment : goal.returns-in_err-merge_segment
returns-in_err-merge_segment c = λ before k.
    let row = c.args.row in
    let i = length c.loop-segment.yielded in
    let turn = YieldsList-turn (YieldsList-from_vec {s = c.into_iter-segment-iterator.result} row (search rules) (search rules))
    c.loop-segment.yielded c.loop-segment.segment-iterator c.loop-segment.yielded_by c.next.result c.next.new.self c.in-Some.segment
    c.in-Some.is c.next.ensures.steps in
    let is : c.from_residual.result ≡ Err c.in_err-merge_segment.field-0.0 = search rules in
    subst (RowAnswers before row c.merge_segment.new.kept) (sym is)
    (row_refused before row i c.in-Some.segment turn.0 turn.1 c.merge_segment.new.kept c.in_err-merge_segment.field-0.0
    (c.in_err-merge_segment.ensures (before ++ take i row) (c.loop-segment.invariant before k)))

pub loop-segment-preserved : goal.loop-segment-preserved
loop-segment-preserved c = λ before k.
    let row = c.args.row in
    let i = length c.loop-segment.yielded in
    let turn = YieldsList-turn (YieldsList-from_vec {s = c.into_iter-segment-iterator.result} row (search rules) (search rules))
    c.loop-segment.yielded c.loop-segment.segment-iterator c.loop-segment.yielded_by c.next.result c.next.new.self c.in-Some.segment
    c.in-Some.is c.next.ensures.steps in
    subst (λ (n : ℕ). KeepsLenient (all_of (batches_in (before ++ take n row))) c.merge_segment.new.kept)
    (sym (length_push c.loop-segment.yielded c.in-Some.segment))
    (row_goes_on before row i c.in-Some.segment turn.0 turn.1 c.merge_segment.new.kept c.in_ok-merge_segment.field-0
    (c.in_ok-merge_segment.ensures (before ++ take i row) (c.loop-segment.invariant before k)))

pub returns : goal.returns
returns c = λ before k.
    let row = c.args.row in
    let ends = YieldsList-end (YieldsList-from_vec {s = c.into_iter-segment-iterator.result} row (search rules) (search rules))
    c.loop-segment.yielded c.loop-segment.segment-iterator c.loop-segment.yielded_by c.next.result c.next.new.self c.in-None.is c.next.ensures.steps in
    let whole : take (length c.loop-segment.yielded) row ≡ row = take_all (length c.loop-segment.yielded) row (omega (arith, ends.1)) in
    subst (λ (s : List SegmentRead). KeepsLenient (all_of (batches_in (before ++ s))) c.loop-segment.kept) whole (c.loop-segment.invariant before k)
