use Rattle.std.proofs.Common.{◌≡◌, ◌≤◌, ◌<◌, get_or, length, ltb, arith, rules, subst, sym}
use Rattle.std.proofs.lemmas.Bool.Decides.{nat_tests}
use Rattle.std.specs.Prelude.{Contains, MatchBool}
use Rattle.std.proofs.lemmas.List.Sorted.{IsPartitionPoint-from_clause}
use Rattle.batch_repr.specs.declared.batch.Batch.{Batch}
use Rattle.segment_merge.specs.Merging.{AscendByNumber}
use Rattle.segment_merge.proofs.Search.{EndsAt, partitioned, found_there, found_nowhere}
use Rattle.segment_merge.proofs.known.KnownBatches.has.Goals as goal

pub returns-in-Some : goal.returns-in-Some
returns-in-Some c =
    let batches = c.as_slice-batches.result.now in
    let place = c.partition_point-place.result in
    let up : AscendByNumber 0 batches = subst (AscendByNumber 0) (sym c.as_slice-batches.ensures) c.self.invariant.ascending in
    let point : EndsAt batches c.args.batch.now place =
    IsPartitionPoint-from_clause (λ (b : Batch). ltb b.first c.args.batch.now.first) _ _ c.partition_point-place.ensures.partitioned (partitioned batches c.args.batch.now.first up)
    (λ a r q k. search rules) in
    let below : place < length batches = grind (arith, nat_tests) in
    let read : get_or batches place c.args.batch.now ≡ c.in-Some.kept.now = search rules in
    let same : batches ≡ c.args.self.now.batches = search rules in
    subst (λ xs. MatchBool c.same_as.result (Contains xs c.args.batch.now) (Contains xs c.args.batch.now → ⊥)) same
    (found_there batches c.args.batch.now c.in-Some.kept.now place c.same_as.result up point below read c.same_as.ensures)

pub returns-in-None : goal.returns-in-None
returns-in-None c =
    let batches = c.as_slice-batches.result.now in
    let place = c.partition_point-place.result in
    let up : AscendByNumber 0 batches = subst (AscendByNumber 0) (sym c.as_slice-batches.ensures) c.self.invariant.ascending in
    let point : EndsAt batches c.args.batch.now place =
    IsPartitionPoint-from_clause (λ (b : Batch). ltb b.first c.args.batch.now.first) _ _ c.partition_point-place.ensures.partitioned (partitioned batches c.args.batch.now.first up)
    (λ a r q k. search rules) in
    let past : length batches ≤ place = grind (arith, nat_tests) in
    let same : batches ≡ c.args.self.now.batches = search rules in
    subst (λ xs. Contains xs c.args.batch.now → ⊥) same (found_nowhere batches c.args.batch.now place up point past)
