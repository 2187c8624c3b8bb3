-- A test by number parts range deletes that are in order.
use Rattle.std.proofs.Common.{rules, ltb}
use Rattle.std.proofs.lemmas.List.Sorted.{IsPartitionPoint-from_clause, IsPartitionedBy-ltb}
use Rattle.range_cover.specs.declared.mark.RangeMark.{RangeMark}
use Rattle.range_cover.proofs.Scan.{boundary}
use Rattle.range_cover.proofs.mark.count_below.Goals as goal

pub returns-clause-boundary : goal.returns-clause-boundary
returns-clause-boundary c =
    boundary c.args.marks.now c.args.below c.partition_point.result
    (IsPartitionPoint-from_clause (λ (mark : RangeMark). ltb mark.number c.args.below) _ _ c.partition_point.ensures.partitioned
    (IsPartitionedBy-ltb (λ (mark : RangeMark). mark.number) c.args.marks.now c.args.below c.requires.order) (λ a r q k. search rules))
