-- As many nodes are passed as are no longer to go; none is empty.
use Rattle.std.proofs.Common.{◌≡◌, ◌∙◌, ℕ, suc, ◌-◌, ap, sym, List, ◌∷◌, drop, Option, arith}
use Rattle.record_queue.specs.declared.node.Filled.{Filled}
use Rattle.record_queue.proofs.Linking.{first_of_rest, filled_at, drop_step, past_end}
use Rattle.record_queue.proofs.queue.linked_at.Goals as goal

pub returns-in-Some-node-clause-found : goal.returns-in-Some-node-clause-found
returns-in-Some-node-clause-found c = let xs : List (Option Filled) = c.args.linked.now in
    let n : c.args.place ≡ c.args.place - c.loop-node.left = (let z = c.if-left-eq0.true in omega arith) in
    first_of_rest c.args.place xs c.in-Some-node.filled c.next.new.self c.requires.filled (ap (λ (k : ℕ). drop k xs) n ∙ sym c.loop-node.invariant.rest ∙ c.in-Some.ensures.steps ∙ ap (λ (x : Option Filled). x ∷ c.next.new.self) c.in-Some-node.is)

pub returns-in-None-clause-held : goal.returns-in-None-clause-held
returns-in-None-clause-held c = let xs : List (Option Filled) = c.args.linked.now in absurd (filled_at (c.args.place - c.loop-node.left) xs c.next.new.self c.requires.filled (sym c.loop-node.invariant.rest ∙ c.in-Some.ensures.steps ∙ ap (λ (x : Option Filled). x ∷ c.next.new.self) c.in-None.is))

pub loop-node-preserved : goal.loop-node-preserved
loop-node-preserved c = let xs : List (Option Filled) = c.args.linked.now in let low = c.loop-node.invariant.low in
    let some = c.if-left-eq0.false in
    let n : suc (c.args.place - c.loop-node.left) ≡ c.args.place - (c.loop-node.left - 1) = omega arith in record {
      rest = sym (drop_step (c.args.place - c.loop-node.left) xs c.in-Some.node.now c.next.new.self (sym c.loop-node.invariant.rest ∙ c.in-Some.ensures.steps)) ∙ ap (λ (k : ℕ). drop k xs) n;
      low = omega arith;
    }

pub returns-clause-held : goal.returns-clause-held
returns-clause-held c = let xs : List (Option Filled) = c.args.linked.now in
    let few = past_end (c.args.place - c.loop-node.left) xs (sym c.loop-node.invariant.rest ∙ c.in_default.ensures.steps.0) in ((λ e. absurd (cc e)), λ l. absurd (omega arith))
