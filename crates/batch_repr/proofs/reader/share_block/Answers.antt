-- The batch of the next head stands before those of the later ones.
use Rattle.std.proofs.Common.{◌≡◌, ◌+◌, ◌++◌, List, drop, get_or, refl, sym, ap, ◌∙◌}
use Rattle.std.proofs.lemmas.List.{append-nil, at_drop_all}
use Rattle.std.specs.Arc.{arc_value}
use Rattle.wal_base.specs.declared.entry.Entry.{Entry}
use Rattle.batch_repr.specs.declared.batch.Batch.{Batch}
use Rattle.batch_repr.specs.declared.reader.Head.{Head}
use Rattle.batch_repr.specs.Blocks.{batches_over}
use Rattle.batch_repr.proofs.Tools.{ok_of}
use Rattle.batch_repr.proofs.Blocks.{divide_up, divide_more, over_more}
use Rattle.batch_repr.proofs.reader.share_block.Goals as goal

pub loop-head-init : goal.loop-head-init
loop-head-init c = record { left = refl; divide = rw (c.in_ok-block.ensures.ok, c.shrink_to_fit.ensures.items) c.requires }

pub part-requires : goal.part-requires
part-requires c =
    let es = (arc_value c.in_ok-block.block).items in
    let heads = c.args.heads.now in
    let i = c.loop-head.head-index in
    let none : Head = record { first = 0; end = 0 } in
    let more = divide_more es heads i none c.loop-head-test.true c.loop-head.from _ c.loop-head.invariant.divide in
    record { order = more.0; within = divide_up (get_or heads i none).end (drop (i + 1) heads) _ more.1 }

pub loop-head-preserved : goal.loop-head-preserved
loop-head-preserved c =
    let es = (arc_value c.in_ok-block.block).items in
    let heads = c.args.heads.now in
    let i = c.loop-head.head-index in
    let none : Head = record { first = 0; end = 0 } in
    let head : Head = get_or heads i none in
    let batch : Batch = record { first = head.first; entries = c.in_ok-part.field-0 } in
    let pushed = ok_of c.push.result _ (sym c.if-is_err.ensures.value) c.push.ensures.ok in
    record {
      left = ap (λ (bs : List Batch). bs ++ batches_over head.end (drop (i + 1) heads) es) pushed
          ∙ over_more es heads i none c.loop-head-test.true c.loop-head.from c.loop-head.batches _ batch
          (ap (λ (part : List Entry). record { first = head.first; entries = part }) c.in_ok-part.ensures) c.loop-head.invariant.left;
      divide = (divide_more es heads i none c.loop-head-test.true c.loop-head.from _ c.loop-head.invariant.divide).1;
    }

pub returns : goal.returns
returns c =
    let es = (arc_value c.in_ok-block.block).items in
    let heads = c.args.heads.now in
    let batches = c.loop-head.batches in
    let same : es ≡ c.args.block.items = rw (c.in_ok-block.ensures.ok) c.shrink_to_fit.ensures.items in
    sym (append-nil batches)
    ∙ sym (at_drop_all (λ (hs : List Head). batches ++ batches_over c.loop-head.from hs es) heads c.loop-head.head-index c.loop-head-test.false)
    ∙ c.loop-head.invariant.left ∙ ap (λ (block : List Entry). c.args.batches.now ++ batches_over 0 heads block) same
