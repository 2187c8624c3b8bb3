-- No node is empty, so each brings its record.
use Rattle.std.proofs.Common.{◌≡◌, ◌∙◌, ap, List, ◌∷◌, Option, None, subst}
use Rattle.record_queue.specs.declared.node.Filled.{Filled}
use Rattle.record_queue.specs.Nodes.{AreFilled}
use Rattle.record_queue.proofs.Linking.{no_none}
use Rattle.record_queue.proofs.queue.move_linked.Goals as goal

pub loop-node-preserved : goal.loop-node-preserved
loop-node-preserved c = let rest : List (Option Filled) = c.pop_front.new.self in
    let is : c.loop-node.linked ≡ None ∷ rest = c.in-Some.ensures.items ∙ ap (λ (x : Option Filled). x ∷ rest) c.in_default-node.is in absurd (no_none rest (subst AreFilled is c.loop-node.invariant.filled))
