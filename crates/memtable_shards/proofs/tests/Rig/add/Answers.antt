-- The loop by which a layer above applies a batch's pieces.
use Rattle.std.proofs.Common.{◌≡◌, List, [], ◌∷◌, ◌++◌, Some, sym, ap, ◌∙◌, subst, arith}
use Rattle.std.proofs.Math.ListN.{set}
use Rattle.batch_repr.specs.declared.batch.Batch.{Batch}
use Rattle.memtable_shards.specs.Versions.{Version}
use Rattle.memtable_shards.specs.Pieces.{PiecesLeft, whole_pieces, AreShardsAmid}
use Rattle.memtable_shards.proofs.Applying.{next_applied, next_is_new, pieces_begin, pieces_end}
use Rattle.memtable_shards.proofs.Rigs.{row_more, end_more, shard_at}
use Rattle.memtable_shards.proofs.tests.Rig.add.Goals as goal

pub loop-at-init : goal.loop-at-init
loop-at-init g c =
    let batch : Batch = record { first = c.self.inside.next; entries = c.args.batch } in
    let batches : List Batch = c.self.invariant.0 in
    let whole : record (whole_pieces c.args.batch) { first = Some c.self.inside.next } ≡ c.number.new.self =
    sym (c.number.ensures ∙ ap (λ (p : PiecesLeft). record p { first = Some c.self.inside.next }) (rw c.expect-pieces.ensures at c.split.ensures
    ∙ ap whole_pieces c.into_parts-entries.ensures.entries)) in (
      batches,
      row_more 10 batches batch c.self.invariant.1 c.self.invariant.2 (omega (arith, c.count.ensures.some, c.count.ensures.count)),
      subst (AreShardsAmid c.self.inside.shards.items batches batch) whole (pieces_begin c.self.inside.shards.items batches batch c.self.invariant.3),
    )

pub apply-requires : goal.apply-requires
apply-requires g c = record {
  apart =
      next_is_new 10 c.loop-at.self-inside.shards.items c.loop-at.invariant.0
      (record { first = c.self.inside.next; entries = c.args.batch }) c.loop-at.pieces c.in-Some.at c.in-Some.node c.index_mut.result.now
      c.loop-at.invariant.1 c.loop-at.invariant.2
      c.in-Some.ensures.next (shard_at c.loop-at.self-inside.shards.items c.in-Some.at c.index_mut.result.now c.index_mut.ensures.value
      (omega (arith, c.in-Some.ensures.next.within, c.loop-at.invariant.2.eight)));
}

pub loop-at-preserved : goal.loop-at-preserved
loop-at-preserved g c =
    let batch : Batch = record { first = c.self.inside.next; entries = c.args.batch } in
    let batches : List Batch = c.loop-at.invariant.0 in
    let shards : List (List Version) = c.loop-at.self-inside.shards.items in (
      batches,
      c.loop-at.invariant.1,
      subst (AreShardsAmid (set shards c.in-Some.at c.apply.new.self) batches batch) (sym c.in-Some.ensures.handed)
          (next_applied shards batches batch c.loop-at.pieces c.in-Some.at c.in-Some.node c.index_mut.result.now c.apply.new.self c.loop-at.invariant.2
          c.in-Some.ensures.next
          (shard_at shards c.in-Some.at c.index_mut.result.now c.index_mut.ensures.value
          (omega (arith, c.in-Some.ensures.next.within, c.loop-at.invariant.2.eight))) c.apply.ensures),
    )

pub invariant_of-self : goal.invariant_of-self
invariant_of-self g c =
    let batch : Batch = record { first = c.self.inside.next; entries = c.args.batch } in
    let batches : List Batch = c.loop-at.invariant.0 in (
      batches ++ batch ∷ [],
      c.loop-at.invariant.1,
      omega (arith, end_more 10 batches batch, c.from-count.ensures, c.count.ensures.count),
      pieces_end c.loop-at.self-inside.shards.items batches batch c.loop-at.pieces c.loop-at.invariant.2 c.in_default.ensures.none,
    )
