-- All that the batches leave is there, and the one mark is the next number.
use Rattle.std.proofs.Common.{◌≡◌, ℕ, List, [], Option, sym, ap, ◌∙◌, subst, arith}
use Rattle.std.specs.List.Sorted.{IsNonDecreasing}
use Rattle.batch_repr.specs.declared.batch.Batch.{Batch}
use Rattle.batch_repr.specs.Batches.{end_after}
use Rattle.batch_repr.specs.Versions.{versions_in}
use Rattle.arena_list.specs.Versions.{KeyVersion}
use Rattle.arena_list.specs.Marks.{PutsMark}
use Rattle.range_cover.specs.declared.mark.RangeMark.{RangeMark}
use Rattle.snapshot_view.specs.Building.{TakesVersions, TakesRanges}
use Rattle.snapshot_view.specs.Views.{IsView}
use Rattle.snapshot_view.proofs.Taking.{all_versions, all_ranges}
use Rattle.snapshot_view.proofs.Keeping.{built}
use Rattle.snapshot_view.proofs.view.View.build.Goals as goal

pub invariant_of-result : goal.invariant_of-result
invariant_of-result c =
    let batches : List Batch = c.args.batches.now in
    let next : ℕ = c.end_of_batches-next.result in
    let versions : List KeyVersion = c.add_batches.new.versions.versions in
    let ranges : List RangeMark = c.add_batches.new.ranges in
    let marks : List ℕ = c.insert.new.self in
    let end : next ≡ end_after c.args.floor batches = c.end_of_batches-next.ensures ∙ ap (end_after c.args.floor) c.as_slice.ensures in
    let put : PutsMark [] next marks = subst (λ (l : List ℕ). PutsMark l next marks) c.new-marks.ensures c.in_ok-insert.ensures.put in
    let ascends : IsNonDecreasing marks = c.in_ok-insert.ensures.ascends
    (subst IsNonDecreasing (sym c.new-marks.ensures) (λ i j d le lt. absurd (omega (arith, lt)))) in
    let is : IsView (record { batches = batches; floor = c.args.floor; next = next; holds = []; versions = versions }) ranges marks =
    built batches c.args.floor next versions ranges marks c.requires end
    (all_versions c.in_ok-versions.versions.versions versions batches c.in_ok-versions.ensures.versions
    (subst (λ (bs : List Batch). TakesVersions c.in_ok-versions.versions.versions (versions_in bs) versions) c.as_slice-2.ensures c.in_ok-add_batches.ensures.keys))
    (all_ranges c.in_ok-ranges.ranges ranges batches c.in_ok-ranges.ensures
    (subst (λ (bs : List Batch). TakesRanges c.in_ok-ranges.ranges (versions_in bs) ranges) c.as_slice-2.ensures c.in_ok-add_batches.ensures.deletes))
    put ascends in
    subst (λ (bs : List Batch). IsView (record { batches = bs; floor = c.args.floor; next = next; holds = c.new-3.result.items; versions = versions }) ranges marks)
    (sym c.of.ensures)
    (subst (λ (hs : List (Option ℕ)). IsView (record { batches = batches; floor = c.args.floor; next = next; holds = hs; versions = versions }) ranges marks)
    (sym c.new-3.ensures.items) is)

pub returns-clause-versions : goal.returns-clause-versions
returns-clause-versions c =
    all_versions c.in_ok-versions.versions.versions c.add_batches.new.versions.versions c.args.batches.now c.in_ok-versions.ensures.versions
    (subst (λ (bs : List Batch). TakesVersions c.in_ok-versions.versions.versions (versions_in bs) c.add_batches.new.versions.versions)
    c.as_slice-2.ensures c.in_ok-add_batches.ensures.keys)
