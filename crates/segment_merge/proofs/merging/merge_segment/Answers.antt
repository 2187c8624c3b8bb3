-- A list that is taken over is what its batches, one after another, would have been merged to.
use Rattle.std.proofs.Common.{[], ◌∷◌, ◌++◌, All, ap, sym, subst, ◌∙◌}
use Rattle.batch_repr.specs.Batches.{end_after, IsContiguous}
use Rattle.segment_merge.specs.Rows.{IsNumbered, batches_in}
use Rattle.segment_merge.specs.Keeping.{IsWholeFrom}
use Rattle.segment_merge.specs.Steps.{KeepsMerged}
use Rattle.segment_merge.proofs.KeepsMerged.{taken_over}
use Rattle.segment_merge.proofs.Whole.{run_ascends}
use Rattle.segment_merge.proofs.merging.merge_segment.Goals as goal

pub whole_end-requires : goal.whole_end-requires
whole_end-requires c = subst (All IsNumbered) (sym c.as_slice.ensures) c.requires

pub take_over-requires-clause-ascending : goal.take_over-requires-clause-ascending
take_over-requires-clause-ascending c =
    let next = c.args.kept.now.next in
    run_ascends next c.args.segment.batches (subst (λ bs. IsContiguous next bs) c.as_slice.ensures c.in-Some.ensures.end.contiguous)

pub take_over-requires-clause-next : goal.take_over-requires-clause-next
take_over-requires-clause-next c = c.in-Some.ensures.end.end_is ∙ ap (end_after c.args.kept.now.next) c.as_slice.ensures

pub returns-in-Some : goal.returns-in-Some
returns-in-Some c = λ first before k.
    let whole = subst (λ bs. IsWholeFrom c.args.kept.now.next bs c.in-Some.end) c.as_slice.ensures c.in-Some.ensures.end in
    subst (KeepsMerged first (batches_in (before ++ c.args.segment ∷ []))) (sym c.take_over.ensures)
    (taken_over first before c.args.segment c.args.kept.now c.in-Some.end k c.in-Some.ensures.none whole)
