-- The new batch's entries stand behind those of the block, and its head behind the other heads.
use Rattle.std.proofs.Common.{◌≡◌, ◌≤◌, ◌++◌, ◌∷◌, [], List, length, sym, ap, ◌∙◌, subst, append_assoc, length-append, arith, rules}
use Rattle.wal_base.specs.declared.entry.Entry.{Entry}
use Rattle.batch_repr.specs.declared.batch.Batch.{Batch}
use Rattle.batch_repr.specs.declared.reader.Head.{Head}
use Rattle.batch_repr.specs.Blocks.{batches_over, Divide}
use Rattle.batch_repr.proofs.Blocks.{over_push, divide_push}
use Rattle.batch_repr.proofs.reader.BatchReader.read.Goals as goal

pub invariant_of-result : goal.invariant_of-result
invariant_of-result c =
    let adds = c.in_ok-first.ensures.found in
    let old = c.batches.inside.block.items in
    let new = c.read_batch.new.entries.items in
    let heads = c.batches.inside.heads.items in
    let head : Head = record { first = c.in_ok-first.first; end = c.in-Ok.end } in
    let ends : c.in-Ok.end ≡ length new = search rules in
    let up : length old ≤ c.in-Ok.end = omega (arith, ends, ap length adds.added, length-append old adds.read) in
    subst (λ (hs : List Head). Divide 0 hs (length new)) (sym c.in_ok-push.ensures.items)
    (subst (Divide 0 (heads ++ head ∷ [])) ends (divide_push 0 heads (length old) head c.batches.invariant up))

pub returns-clause-met : goal.returns-clause-met
returns-clause-met c =
    let adds = c.in_ok-first.ensures.found in
    let old = c.batches.inside.block.items in
    let new = c.read_batch.new.entries.items in
    let heads = c.batches.inside.heads.items in
    let batches = c.batches.inside.batches in
    let head : Head = record { first = c.in_ok-first.first; end = c.in-Ok.end } in
    let batch : Batch = record { first = c.in_ok-first.first; entries = adds.read } in
    let ends : c.in-Ok.end ≡ length new = search rules in
    record {
      batch = batch;
      reads = adds.reads;
      added = ap (λ (hs : List Head). batches ++ batches_over 0 hs new) c.in_ok-push.ensures.items
          ∙ ap (λ (es : List Entry). batches ++ batches_over 0 (heads ++ head ∷ []) es) adds.added
          ∙ ap (λ (bs : List Batch). batches ++ bs) (over_push 0 heads old adds.read head c.batches.invariant (ends ∙ ap length adds.added))
          ∙ sym (append_assoc batches (batches_over 0 heads old) (batch ∷ []))
          ∙ ap (λ (bs : List Batch). bs ++ batch ∷ []) (c.batches.view_is ∙ c.in_ok-alloc.ensures);
    }
