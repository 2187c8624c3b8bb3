use Rattle.std.proofs.Common.{◌≡◌, ◌++◌, List, Ok, Err, subst, sym, rules}
use Rattle.segment_merge.specs.declared.segment.SegmentRead.{SegmentRead}
use Rattle.segment_merge.specs.Rows.{batches_in}
use Rattle.segment_merge.specs.Merging.{all_of}
use Rattle.segment_merge.specs.Lenient.{AreMergedOf}
use Rattle.segment_merge.specs.Steps.{KeepsLenient}
use Rattle.segment_merge.proofs.LenientRefusals.{Answers, why_refused, only_merged, only_conflict}
use Rattle.segment_merge.proofs.LenientRows.{keeps_before, keeps_on, answers_ok}
use Rattle.segment_merge.proofs.lenient.LenientMerge.add.Goals as goal

-- a segment that is refused refuses the row after those before it
refused : (c : goal.After-drop-kept-inside) → (before : List SegmentRead) → AreMergedOf before c.args.self
    → Answers (before ++ c.args.row) c.from_residual.result
refused c before m =
    let kept = c.self.inside.kept in
    let view : c.args.self ≡ kept.batches = search rules in
    let is : c.from_residual.result ≡ Err c.in_err-merge_row.field-0.0 = search rules in
    let k : KeepsLenient (all_of (batches_in before)) kept = keeps_before before kept c.self.invariant (subst (AreMergedOf before) view m) in
    subst (Answers (before ++ c.args.row)) (sym is) (c.in_err-merge_row.ensures before k)

pub returns-in_err-merge_row-clause-merged : goal.returns-in_err-merge_row-clause-merged
returns-in_err-merge_row-clause-merged c = λ before merged m. only_merged (before ++ c.args.row) c.from_residual.result (refused c before m) merged

pub returns-in_err-merge_row-clause-refused : goal.returns-in_err-merge_row-clause-refused
returns-in_err-merge_row-clause-refused c = λ before m. why_refused (before ++ c.args.row) c.from_residual.result (refused c before m)

pub returns-in_err-merge_row-clause-conflict : goal.returns-in_err-merge_row-clause-conflict
returns-in_err-merge_row-clause-conflict c = λ before index number m. only_conflict (before ++ c.args.row) c.from_residual.result
    (refused c before m) index number

pub invariant_of-result : goal.invariant_of-result
invariant_of-result c = keeps_on c.args.row c.self.inside.kept c.merge_row.new.kept c.in_ok-merge_row.field-0 c.self.invariant c.in_ok-merge_row.ensures

pub returns-clause-found : goal.returns-clause-found
returns-clause-found c = λ before m.
    let kept = c.self.inside.kept in
    let view : c.args.self ≡ kept.batches = search rules in
    let k : KeepsLenient (all_of (batches_in before)) kept = keeps_before before kept c.self.invariant (subst (AreMergedOf before) view m) in
    answers_ok (before ++ c.args.row) c.merge_row.new.kept (c.in_ok-merge_row.ensures before k)

pub returns-clause-merged : goal.returns-clause-merged
returns-clause-merged c = λ before merged m. only_merged (before ++ c.args.row) (Ok c.merge_row.new.kept.batches) (returns-clause-found c before m) merged

pub returns-clause-conflict : goal.returns-clause-conflict
returns-clause-conflict c = λ before index number m. only_conflict (before ++ c.args.row) (Ok c.merge_row.new.kept.batches)
    (returns-clause-found c before m) index number
