use Rattle.std.proofs.Common.{◌≡◌, ◌+◌, Ok, Err, length, subst, sym, arith, rules, take, drop}
use Rattle.std.proofs.lemmas.List.{length_push, take_all}
use Rattle.std.proofs.lemmas.Iterator.Consumers.{YieldsList-turn, YieldsList-end}
use Rattle.std.proofs.lemmas.Iterator.Adapters.{YieldsList-from_vec}
use Rattle.segment_merge.specs.Rows.{batches_in}
use Rattle.segment_merge.specs.Merging.{Merged}
use Rattle.segment_merge.specs.Refusals.{IsRowRefused}
use Rattle.segment_merge.specs.Returned.{MemoryOrRefusal}
use Rattle.segment_merge.specs.Steps.{KeepsMerged}
use Rattle.segment_merge.proofs.KeepsMerged.{Answers, row_more, whole_row, none_kept, why_refused, only_merged, only_gap, only_conflict}
use Rattle.segment_merge.proofs.merging.merge.Goals as goal

pub loop-segment-init : goal.loop-segment-init
loop-segment-init c = none_kept c.args.first c.new-kept.result c.new-kept.ensures.batches c.new-kept.ensures.next

pub loop-segment-preserved : goal.loop-segment-preserved
loop-segment-preserved c =
    let segments = c.args.segs in
    let i = length c.loop-segment.yielded in
    let turn = YieldsList-turn (YieldsList-from_vec {s = c.into_iter-segment-iterator.result} segments (search rules) (search rules))
    c.loop-segment.yielded c.loop-segment.segment-iterator c.loop-segment.yielded_by c.next.result c.next.new.self c.in-Some.segment
    c.in-Some.is c.next.ensures.steps in
    subst (λ n. KeepsMerged c.args.first (batches_in (take n segments)) c.merge_segment.new.kept) (sym (length_push c.loop-segment.yielded c.in-Some.segment))
    (subst (λ s. KeepsMerged c.args.first (batches_in s) c.merge_segment.new.kept) (sym (row_more segments i c.in-Some.segment turn.0 turn.1))
    (c.in_ok-merge_segment.ensures c.args.first (take i segments) c.loop-segment.invariant))

-- a segment that is refused refuses the row
refused : (c : goal.After-drop-kept-inside) → Answers c.args.first c.args.segs c.from_residual.result
refused c =
    let segments = c.args.segs in
    let i = length c.loop-segment.yielded in
    let turn = YieldsList-turn (YieldsList-from_vec {s = c.into_iter-segment-iterator.result} segments (search rules) (search rules))
    c.loop-segment.yielded c.loop-segment.segment-iterator c.loop-segment.yielded_by c.next.result c.next.new.self c.in-Some.segment
    c.in-Some.is c.next.ensures.steps in
    let is : c.from_residual.result ≡ Err c.in_err-merge_segment.field-0.0 = search rules in
    let here : MemoryOrRefusal (IsRowRefused c.args.first segments) c.in_err-merge_segment.field-0.0 =
    subst (λ s. MemoryOrRefusal (IsRowRefused c.args.first s) c.in_err-merge_segment.field-0.0) (whole_row segments i c.in-Some.segment turn.0 turn.1)
    (c.in_err-merge_segment.ensures c.args.first (take i segments) c.loop-segment.invariant (drop (i + 1) segments)) in
    subst (Answers c.args.first segments) (sym is) here

pub returns-in_err-merge_segment-clause-refused : goal.returns-in_err-merge_segment-clause-refused
returns-in_err-merge_segment-clause-refused c = why_refused c.args.first c.args.segs c.from_residual.result (refused c)

pub returns-in_err-merge_segment-clause-merged : goal.returns-in_err-merge_segment-clause-merged
returns-in_err-merge_segment-clause-merged c = only_merged c.args.first c.args.segs c.from_residual.result (refused c)

pub returns-in_err-merge_segment-clause-gap : goal.returns-in_err-merge_segment-clause-gap
returns-in_err-merge_segment-clause-gap c = only_gap c.args.first c.args.segs c.from_residual.result (refused c)

pub returns-in_err-merge_segment-clause-conflict : goal.returns-in_err-merge_segment-clause-conflict
returns-in_err-merge_segment-clause-conflict c = only_conflict c.args.first c.args.segs c.from_residual.result (refused c)

merged : goal.returns-clause-found
merged c =
    let ends = YieldsList-end (YieldsList-from_vec {s = c.into_iter-segment-iterator.result} c.args.segs (search rules) (search rules))
    c.loop-segment.yielded c.loop-segment.segment-iterator c.loop-segment.yielded_by c.next.result c.next.new.self c.in-None.is c.next.ensures.steps in
    let whole : take (length c.loop-segment.yielded) c.args.segs ≡ c.args.segs = take_all (length c.loop-segment.yielded) c.args.segs (omega (arith, ends.1)) in
    subst (λ m. Merged c.args.first (batches_in c.args.segs) m) (sym c.into_batches.ensures)
    (subst (λ s. Merged c.args.first (batches_in s) c.loop-segment.kept.batches) whole c.loop-segment.invariant.merged)

pub returns-clause-found : goal.returns-clause-found
returns-clause-found c = merged c

pub returns-clause-merged : goal.returns-clause-merged
returns-clause-merged c = only_merged c.args.first c.args.segs (Ok c.into_batches.result) (merged c)

pub returns-clause-gap : goal.returns-clause-gap
returns-clause-gap c = only_gap c.args.first c.args.segs (Ok c.into_batches.result) (merged c)

pub returns-clause-conflict : goal.returns-clause-conflict
returns-clause-conflict c = only_conflict c.args.first c.args.segs (Ok c.into_batches.result) (merged c)
