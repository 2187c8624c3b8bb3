use Rattle.std.proofs.Common.{◌≡◌, ◌++◌, ◌∷◌, [], ◌+◌, ◌<◌, List, is_err, sym, ap, subst, refl, arith}
use Rattle.batch_repr.specs.declared.batch.Batch.{Batch}
use Rattle.batch_repr.proofs.Laws.{ok_of}
use Rattle.view_runner.specs.Rows.{IsTestRow}
use Rattle.view_runner.proofs.Rows.{row_more}
use Rattle.view_runner.proofs.tests.Row.add.Goals as goal

pub invariant_of-self : goal.invariant_of-self
invariant_of-self g c =
    let batch : Batch = record { first = c.self.inside.next; entries = c.expect-entries.result } in
    let low : c.self.inside.next < 1000000 = omega arith in
    let some : 0 < c.count-count.result = omega arith in
    let few : c.count-count.result < 1000000 = omega arith in
    let added : c.push.new.self ≡ c.self.inside.batches ++ batch ∷ [] =
    ok_of c.push.result (c.push.new.self ≡ c.self.inside.batches ++ batch ∷ []) (ap is_err c.expect.ensures) c.push.ensures.ok in
    subst (λ (bs : List Batch). IsTestRow bs (c.self.inside.next + c.count-count.result)) (sym added)
    (row_more c.self.inside.batches batch c.self.inside.next c.count-count.result c.self.invariant refl c.count-count.ensures some low few)
