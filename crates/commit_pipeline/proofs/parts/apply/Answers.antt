-- Piece by piece, each into its shard.
use Rattle.std.proofs.Common.{◌≡◌, ◌∙◌, Some, ap, sym, subst, refl, arith}
use Rattle.std.specs.Prelude.{IsSome, slice_set}
use Rattle.std.proofs.lemmas.Option.{slice_get_read}
use Rattle.batch_repr.proofs.Laws.{contiguous_push}
use Rattle.memtable_shards.specs.declared.sharding.TheConstants.{SHARDS}
use Rattle.memtable_shards.specs.Pieces.{PiecesLeft, whole_pieces, AreShardsAmid}
use Rattle.memtable_shards.proofs.Laws.{pieces_begin, next_is_new, next_applied, pieces_end}
use Rattle.commit_pipeline.proofs.parts.apply.Goals as goal

pub loop-shard-init : goal.loop-shard-init
loop-shard-init c batches are =
    let batch = c.args.batch in
    let numbered : record (whole_pieces batch.entries) { first = Some batch.first } ≡ c.number.new.self =
    ap (λ (p : PiecesLeft). record p { first = Some batch.first }) (sym (c.in_ok-pieces.ensures ∙ ap whole_pieces c.in_ok-entries.ensures))
    ∙ sym c.number.ensures in
    subst (AreShardsAmid c.args.shards.now.items batches batch) numbered (pieces_begin c.args.shards.now.items batches batch are)

pub take-requires : goal.take-requires
take-requires c =
    let r = c.requires.reached in
    record { numbered = subst IsSome (sym (c.loop-shard.invariant r.batches r.are).first) refl }

pub index_mut-requires : goal.index_mut-requires
index_mut-requires c =
    let r = c.requires.reached in
    omega (arith, c.in-Some.ensures.next.within, (c.loop-shard.invariant r.batches r.are).eight)

pub apply-requires : goal.apply-requires
apply-requires c =
    let r = c.requires.reached in
    let amid = c.loop-shard.invariant r.batches r.are in
    let next = c.in-Some.ensures.next in
    record {
      apart = next_is_new r.start c.loop-shard.shards.items r.batches c.args.batch c.loop-shard.pieces c.in-Some.shard c.in-Some.piece c.index_mut.result.now
          (contiguous_push r.start r.batches c.args.batch r.contiguous (sym r.ends) c.requires.some) amid next
          (slice_get_read c.loop-shard.shards.items SHARDS c.in-Some.shard c.index_mut.result.now (sym amid.eight) next.within c.index_mut.ensures.value);
    }

pub loop-shard-preserved : goal.loop-shard-preserved
loop-shard-preserved c batches are =
    let batch = c.args.batch in
    let shards = c.loop-shard.shards.items in
    let next = c.in-Some.ensures.next in
    let amid = c.loop-shard.invariant batches are in
    subst (AreShardsAmid (slice_set shards c.in-Some.shard c.apply.new.self) batches batch) (sym c.in-Some.ensures.handed)
    (next_applied shards batches batch c.loop-shard.pieces c.in-Some.shard c.in-Some.piece c.index_mut.result.now c.apply.new.self
    amid next (slice_get_read shards SHARDS c.in-Some.shard c.index_mut.result.now (sym amid.eight) next.within c.index_mut.ensures.value) c.apply.ensures)

pub returns : goal.returns
returns c batches are =
    pieces_end c.loop-shard.shards.items batches c.args.batch c.loop-shard.pieces (c.loop-shard.invariant batches are) c.in_default.ensures.none
