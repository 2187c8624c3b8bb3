-- The row is one segment with the base, and a base alone is its own merge.
use Rattle.std.proofs.Common.{◌≡◌, ◌∷◌, ◌++◌, [], ℕ, List, All, Result, Ok, Err, sym, subst, ap, ◌∙◌}
use Rattle.std.proofs.lemmas.List.Elements.{All-cons, All-nil}
use Rattle.batch_repr.proofs.Laws.{ok_of}
use Rattle.batch_repr.specs.declared.batch.Batch.{Batch}
use Rattle.segment_merge.specs.declared.segment.SegmentRead.{SegmentRead}
use Rattle.segment_merge.specs.declared.fault.MergeFault.{MergeFault}
use Rattle.segment_merge.specs.Rows.{IsNumberedSegment}
use Rattle.segment_merge.specs.Lenient.{AreMergedOf}
use Rattle.segment_merge.specs.Promises.{FindsMergedWithRow}
use Rattle.segment_merge.specs.Returned.{MergedOrMemory}
use Rattle.segment_merge.proofs.Laws.{merged_none}
use Rattle.wal_recovery.specs.Base.{IsBaseOf}
use Rattle.wal_recovery.proofs.Base.{base_numbered, base_alone}
use Rattle.wal_recovery.proofs.merging.merge_onto.Goals as goal

abbrev alone : List Batch → SegmentRead
alone base = record { index = 0; batches = base }

-- the row
one_row : (base : List Batch) (old new : List SegmentRead) → new ≡ old ++ alone base ∷ [] → old ≡ [] → new ≡ alone base ∷ []
one_row base old new pushed none = pushed ∙ ap (λ (l : List SegmentRead). l ++ alone base ∷ []) none

-- it is merged to the base, unless memory ran out
answered : (number : ℕ) (base none : List Batch) (row : List SegmentRead) (result : Result (List Batch) MergeFault) → IsBaseOf number base
    → none ≡ [] → row ≡ alone base ∷ [] → FindsMergedWithRow none row result → MergedOrMemory result base
answered number base none row result is empty row_is finds = finds [] base (merged_none none empty)
    (subst (λ (l : List SegmentRead). AreMergedOf l base) (sym row_is) (base_alone number base is))

pub add-requires : goal.add-requires
add-requires c = subst (All IsNumberedSegment)
    (sym (one_row c.args.base c.new-row.result c.push.new.self (ok_of c.push.result _ (sym c.if-is_err.ensures.value) c.push.ensures.ok) c.new-row.ensures))
    (All-cons IsNumberedSegment (alone c.args.base) [] (base_numbered c.args.number c.args.base c.requires.number c.requires.base)
    (All-nil IsNumberedSegment))

pub returns-in-Ok-clause-merged : goal.returns-in-Ok-clause-merged
returns-in-Ok-clause-merged c = answered c.args.number c.args.base c.new.result c.push.new.self (Ok c.in-Ok.merge) c.requires.base c.new.ensures
    (one_row c.args.base c.new-row.result c.push.new.self (ok_of c.push.result _ (sym c.if-is_err.ensures.value) c.push.ensures.ok) c.new-row.ensures)
    c.in-Ok.ensures.merged

pub unreachable-requires : goal.unreachable-requires
unreachable-requires c =
    let m : MergedOrMemory c.add.result c.args.base = answered c.args.number c.args.base c.new.result c.push.new.self c.add.result c.requires.base
    c.new.ensures
    (one_row c.args.base c.new-row.result c.push.new.self (ok_of c.push.result _ (sym c.if-is_err.ensures.value) c.push.ensures.ok) c.new-row.ensures)
    c.add.ensures.merged in
    subst (λ (r : Result (List Batch) MergeFault). MergedOrMemory r c.args.base) (c.in-Err-Gap.is ∙ ap Err c.in-Err-Gap.field-0-is) m

pub unreachable-requires-in-Err-Conflict : goal.unreachable-requires-in-Err-Conflict
unreachable-requires-in-Err-Conflict c =
    let m : MergedOrMemory c.add.result c.args.base = answered c.args.number c.args.base c.new.result c.push.new.self c.add.result c.requires.base
    c.new.ensures
    (one_row c.args.base c.new-row.result c.push.new.self (ok_of c.push.result _ (sym c.if-is_err.ensures.value) c.push.ensures.ok) c.new-row.ensures)
    c.add.ensures.merged in
    subst (λ (r : Result (List Batch) MergeFault). MergedOrMemory r c.args.base) (c.in-Err-Conflict.is ∙ ap Err c.in-Err-Conflict.field-0-is) m
