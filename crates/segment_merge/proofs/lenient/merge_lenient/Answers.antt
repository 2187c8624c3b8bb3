use Rattle.std.proofs.Common.{◌≡◌, [], Ok, Err, subst, sym, rules}
use Rattle.segment_merge.proofs.LenientRefusals.{Answers, why_refused, never_gap, only_merged, only_conflict}
use Rattle.segment_merge.proofs.LenientRows.{merged_none}
use Rattle.segment_merge.proofs.lenient.merge_lenient.Goals as goal

-- the row is refused after no segments
refused : (c : goal.After-from_residual) → Answers c.args.segs c.from_residual.result
refused c =
    let is : c.from_residual.result ≡ Err c.in_err-merge.field-0.0 = search rules in
    subst (Answers c.args.segs) (sym is) (c.in_err-merge.ensures.refused [] (merged_none c.new.result c.new.ensures))

pub returns-in_err-merge-clause-refused : goal.returns-in_err-merge-clause-refused
returns-in_err-merge-clause-refused c = why_refused c.args.segs c.from_residual.result (refused c)

pub returns-in_err-merge-clause-merged : goal.returns-in_err-merge-clause-merged
returns-in_err-merge-clause-merged c = only_merged c.args.segs c.from_residual.result (refused c)

pub returns-in_err-merge-clause-conflict : goal.returns-in_err-merge-clause-conflict
returns-in_err-merge-clause-conflict c = only_conflict c.args.segs c.from_residual.result (refused c)

pub returns-in_err-merge-clause-no_gap : goal.returns-in_err-merge-clause-no_gap
returns-in_err-merge-clause-no_gap c = never_gap c.args.segs c.from_residual.result (refused c)

merged : (c : goal.After-into_batches) → Answers c.args.segs (Ok c.into_batches.result)
merged c = subst (λ m. Answers c.args.segs (Ok m)) (sym c.into_batches.ensures) (c.in_ok-merge.ensures.found [] (merged_none c.new.result c.new.ensures))

pub returns-clause-found : goal.returns-clause-found
returns-clause-found c = merged c

pub returns-clause-merged : goal.returns-clause-merged
returns-clause-merged c = only_merged c.args.segs (Ok c.into_batches.result) (merged c)

pub returns-clause-conflict : goal.returns-clause-conflict
returns-clause-conflict c = only_conflict c.args.segs (Ok c.into_batches.result) (merged c)
