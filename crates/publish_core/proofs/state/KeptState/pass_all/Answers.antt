use Rattle.std.proofs.Common.{◌≡◌, ◌<◌, ◌+◌, ℕ, List, [], ◌∷◌, ◌++◌, length, get_or, take, sym, ap, ◌∙◌, subst}
use Rattle.std.proofs.lemmas.List.{take_more}
use Rattle.publish_core.specs.Kept.{kept_state}
use Rattle.publish_core.specs.Seated.{passed, HandsOn}
use Rattle.publish_core.proofs.Seated.{passes_more}
use Rattle.publish_core.proofs.state.KeptState.pass_all.Goals as goal

pub loop-batch-preserved : goal.loop-batch-preserved
loop-batch-preserved c =
    let xs : List ℕ = c.args.batches.now.items in let k : ℕ = c.loop-batch.batch-index in let note : ℕ = c.args.note in let into : ℕ = c.args.into in
    let s = kept_state c.args.self.now in let t = kept_state c.loop-batch.self in let u = kept_state c.pass.new.self in
    let value : c.deref-batch-items.result.now ≡ xs = c.deref-batch-items.ensures.value in
    let at : get_or c.deref-batch-items.result.now k 0 ≡ get_or xs k 0 = ap (λ (l : List ℕ). get_or l k 0) value in
    let lt : k < length xs = subst (λ (l : List ℕ). k < length l) value c.loop-batch-test.true in
    let more : take (k + 1) xs ≡ take k xs ++ get_or xs k 0 ∷ [] = take_more xs k 0 lt in
    record {
      seats = c.pass.ensures.seats ∙ c.loop-batch.invariant.seats;
      passed = subst (λ (ys : List ℕ). HandsOn note into ys s u) (sym more)
          (passes_more note into (take k xs) (get_or xs k 0) s t u c.loop-batch.invariant.passed
          (c.pass.ensures.passed ∙ ap (λ (x : ℕ). passed t x note into) at));
    }
