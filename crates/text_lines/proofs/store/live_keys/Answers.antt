use Rattle.std.proofs.Common.{◌≡◌, ◌↔◌, ℕ, List, map, Option, Some, ◌∙◌, subst}
use Rattle.std.specs.Prelude.{Contains}
use Rattle.text_lines.specs.Holding.{shown}
use Rattle.text_lines.proofs.Changing.{changed_answer}
use Rattle.text_lines.proofs.Keeping.{ascends, same}
use Rattle.text_lines.proofs.store.live_keys.Goals as goal

pub returns-clause-store : goal.returns-clause-store
returns-clause-store c =
    let entries = c.in_ok-live.live.entries in
    let answers = λ (key : List ℕ). c.in_ok-live.ensures.same key ∙ changed_answer key c.args.batches.now in
    record {
      ascends = ascends entries c.len-count.ensures.ordered;
      same = λ key value. subst (λ (o : Option (List ℕ)). Contains (map shown entries) (record { key = key; value = value }) ↔
          (o ≡ Some value)) (answers key) (same entries c.len-count.ensures.ordered key value);
    }
