-- One batch more goes on where the row ends.
use Rattle.std.proofs.Common.{◌≡◌, ℕ, ◌+◌, ◌<◌, ◌≤◌, List, [], ◌∷◌, ◌++◌, sym, ap, ◌∙◌, subst, arith}
use Rattle.wal_base.specs.declared.entry.Entry.{Entry}
use Rattle.batch_repr.specs.declared.batch.Batch.{Batch}
use Rattle.batch_repr.specs.declared.limits.TheConstants.{NUMBER_MAX}
use Rattle.batch_repr.specs.Batches.{count_of, IsContiguous, end_after}
use Rattle.batch_repr.proofs.Laws.{contiguous_push, end_push}
use Rattle.snapshot_view.proofs.tests.Row.add.Goals as goal

pub invariant_of-self : goal.invariant_of-self
invariant_of-self g c =
    let batch : Batch = record { first = c.self.inside.next; entries = c.expect-entries.result } in
    let entries : c.expect-entries.result ≡ c.expect-batch.result =
    (rw c.expect-entries.ensures at c.of.ensures) ∙ c.into_vec.ensures ∙ c.into_parts-entries.ensures.entries in
    let count : c.from-count.result ≡ count_of c.expect-entries.result =
    c.from-count.ensures ∙ c.count.ensures.count ∙ ap count_of (sym entries) in
    subst (λ (bs : List Batch). IsContiguous 10 bs × (c.self.inside.next + c.from-count.result ≡ end_after 10 bs)
    × (c.self.inside.next + c.from-count.result ≤ NUMBER_MAX)) (sym c.in-Ok.ensures.ok) (
      contiguous_push 10 c.self.inside.batches batch c.self.invariant.0 c.self.invariant.1 (omega (arith, count, c.count.ensures.some)),
      omega (arith, end_push 10 c.self.inside.batches batch, count),
      omega arith,
    )
