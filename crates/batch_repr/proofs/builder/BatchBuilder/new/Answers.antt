use Rattle.std.proofs.Common.{List, ℕ, ap, ◌∙◌, ◌++◌, ◌≡◌}
use Rattle.std.specs.Prelude.{replicate}
use Rattle.batch_repr.proofs.Written.{draft_none}
use Rattle.batch_repr.proofs.builder.BatchBuilder.new.Goals as goal

pub invariant_of-result : goal.invariant_of-result
invariant_of-result c =
    let zeros : List ℕ = replicate 12 0 in
    let filled : c.extend_from_slice.new.self.items ≡ zeros = c.in_ok-extend_from_slice.ensures.items
    ∙ ap (λ (t : List ℕ). t ++ zeros) c.in_ok-bytes.ensures.items in
    rw c.in_ok-entries.ensures (draft_none c.extend_from_slice.new.self.items filled)
