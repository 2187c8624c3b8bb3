-- A list that is taken over is what its batches, one after another, would have been merged to.
use Rattle.std.proofs.Common.{[], ◌∷◌, ◌++◌, All, ap, sym, subst, ◌∙◌}
use Rattle.batch_repr.specs.Batches.{end_after}
use Rattle.segment_merge.specs.Rows.{IsNumbered, batches_in}
use Rattle.segment_merge.specs.Merging.{all_of, AscendByNumber}
use Rattle.segment_merge.specs.Keeping.{IsAscendingFrom}
use Rattle.segment_merge.specs.Steps.{KeepsLenient}
use Rattle.segment_merge.proofs.LenientPass.{taken_over}
use Rattle.segment_merge.proofs.lenient.merge_segment.Goals as goal

pub whole_end-requires : goal.whole_end-requires
whole_end-requires c = subst (All IsNumbered) (sym c.as_slice.ensures) c.requires

pub take_over-requires-clause-ascending : goal.take_over-requires-clause-ascending
take_over-requires-clause-ascending c = subst (AscendByNumber c.args.kept.now.next) c.as_slice.ensures c.in-Some.ensures.end.ascending

pub take_over-requires-clause-next : goal.take_over-requires-clause-next
take_over-requires-clause-next c = c.in-Some.ensures.end.end_is ∙ ap (end_after c.args.kept.now.next) c.as_slice.ensures

pub returns-in-Some : goal.returns-in-Some
returns-in-Some c = λ before k.
    let up = subst (λ bs. IsAscendingFrom c.args.kept.now.next bs c.in-Some.end) c.as_slice.ensures c.in-Some.ensures.end in
    subst (KeepsLenient (all_of (batches_in (before ++ c.args.segment ∷ [])))) (sym c.take_over.ensures)
    (taken_over before c.args.segment c.args.kept.now c.in-Some.end k c.in-Some.ensures.none up)
