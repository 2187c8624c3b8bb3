use Rattle.std.proofs.Common.{List, ℕ, ap, sym, ◌∙◌, ◌≡◌, Some, drop, length, take, ◌-◌}
use Rattle.wal_base.proofs.Parts.{taken_in_front}
use Rattle.wal_base.proofs.mem_streams.MemSourceSource.take.Goals as goal

pub returns-clause-taken : goal.returns-clause-taken
returns-clause-taken c =
    let bytes : List ℕ = c.self.inside.bytes in
    let copied : take c.copy_front-count.result c.copy_front-count.new.buf ≡ take c.copy_front-count.result (take (length bytes - c.self.inside.at) (drop c.self.inside.at bytes)) =
    rw (← c.as_slice.ensures) c.copy_front-count.ensures.copied in
    ap (λ (t : List ℕ). Some t) (sym (ap (λ v. v.left) c.self.view_is) ∙ taken_in_front bytes c.copy_front-count.new.buf c.self.inside.at c.copy_front-count.result copied)
