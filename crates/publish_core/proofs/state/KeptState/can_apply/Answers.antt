use Rattle.std.proofs.Common.{arith, ◌≡◌, ℕ, ◌∙◌, sym, ap, true, false, List, ◌==◌}
use Rattle.std.specs.List.{list_any}
use Rattle.publish_core.specs.declared.seat.BatchShape.{BatchShape}
use Rattle.publish_core.specs.Parts.{has_part}
use lib.ListN.{get_elem?}
use mathlib.Core.Option.{some}
use Rattle.publish_core.proofs.Knows.{stands_at}
use Rattle.publish_core.proofs.Lent.{found, not_so, so_not}
use Rattle.publish_core.proofs.state.KeptState.can_apply.Goals as goal

pub returns-then-touches : goal.returns-then-touches
returns-then-touches c =
    let s = c.args.self.now in let i : ℕ = c.args.batch in let k : ℕ = c.args.shard in let b : BatchShape = c.index.result.now in
    let at : get_elem? s.batches.items i ≡ some b = stands_at s.batches.items i b c.requires.placed c.index.ensures in
    let has : has_part b k ≡ true = sym c.touches.ensures ∙ c.if-touches.true in
    let f = found s.done.items k c.index-then-touches.result.now i c.contains.result (omega arith) c.index-then-touches.ensures
    (c.contains.ensures.value ∙ ap (λ (xs : List ℕ). list_any (λ y. y == i) xs) c.deref.ensures.value) in
    (λ no. (b, at, has, λ a. so_not c.contains.result no (f.1 a)), λ w. not_so c.contains.result (λ t. w.3 (f.0 t)))

pub returns-else-touches : goal.returns-else-touches
returns-else-touches c =
    let s = c.args.self.now in let i : ℕ = c.args.batch in let k : ℕ = c.args.shard in let b : BatchShape = c.index.result.now in
    let at : get_elem? s.batches.items i ≡ some b = stands_at s.batches.items i b c.requires.placed c.index.ensures in
    let off : has_part b k ≡ false = sym c.touches.ensures ∙ c.if-touches.false in (
      λ t. let z : true ≡ false = sym t ∙ c.if-touches.false in cc,
      λ w. let same : some w.0 ≡ some b = sym w.1 ∙ at in let eq : w.0 ≡ b = cc in
          let z : true ≡ false = sym w.2 ∙ ap (λ (x : BatchShape). has_part x k) eq ∙ off in cc,
    )
