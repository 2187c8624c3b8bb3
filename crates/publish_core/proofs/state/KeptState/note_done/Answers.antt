use Rattle.std.proofs.Common.{◌≡◌, ℕ, ap, ◌∙◌, List, ◌∷◌, [], ◌++◌, reverse, arith}
use Rattle.std.proofs.lemmas.Grind.{common_steps}
use Rattle.publish_core.specs.Kept.{kept_state}
use Rattle.publish_core.proofs.Stored.{done_in}
use Rattle.publish_core.proofs.Lent.{newest_first, put_same, done_at, done_written}
use Rattle.publish_core.proofs.Answered.{on_err}
use Rattle.publish_core.proofs.state.KeptState.note_done.Goals as goal

pub returns-in_err-push-clause-err : goal.returns-in_err-push-clause-err
returns-in_err-push-clause-err c =
    let s = c.args.self.now in let l = s.done.items in let k : ℕ = c.args.shard in
    let cell = c.index_mut.result.now in let p : reverse cell.items ≡ done_in l k = done_at l k cell (omega arith) c.index_mut.ensures.value in
    let items : c.push.new.self.items ≡ cell.items = grind (arith, common_steps) in
    on_err c.from_residual.result
    (done_written (kept_state s) l k _ (done_in l k) (omega arith) (ap (λ (x : List ℕ). reverse x) items ∙ p)
    ∙ (λ q. record (kept_state s) { done = put_same (done_in l) k q }))

pub returns-clause-ok : goal.returns-clause-ok
returns-clause-ok c =
    let s = c.args.self.now in let l = s.done.items in let k : ℕ = c.args.shard in let i : ℕ = c.args.batch in
    let cell = c.index_mut.result.now in let p : reverse cell.items ≡ done_in l k = done_at l k cell (omega arith) c.index_mut.ensures.value in
    let items : c.push.new.self.items ≡ cell.items ++ i ∷ [] = grind (arith, common_steps) in
    done_written (kept_state s) l k _ _ (omega arith) (ap (λ (x : List ℕ). reverse x) items ∙ newest_first cell.items i ∙ ap (λ (xs : List ℕ). i ∷ xs) p)
