use Rattle.std.proofs.Common.{◌≤◌, length, subst, sym, ℕ, List, arith}
use Rattle.wal_base.proofs.Shared.{part_of_part, within_part}
use Rattle.wal_base.proofs.bytes.Blob.part.Goals as goal

pub overflow_cast-result : goal.overflow_cast-result
overflow_cast-result c =
    let within = subst (λ (bytes : List ℕ). c.args.to ≤ length bytes) (sym c.self.view_is) c.requires.within in
    omega (arith, within_part _ c.self.inside.from c.self.inside.to c.args.to within, c.requires.order, c.self.invariant.2, c.self.invariant.1)

pub overflow_cast-result-2 : goal.overflow_cast-result-2
overflow_cast-result-2 c =
    let within = subst (λ (bytes : List ℕ). c.args.to ≤ length bytes) (sym c.self.view_is) c.requires.within in
    omega (arith, within_part _ c.self.inside.from c.self.inside.to c.args.to within, c.self.invariant.2, c.self.invariant.1)

pub returns : goal.returns
returns c =
    let within = subst (λ (bytes : List ℕ). c.args.to ≤ length bytes) (sym c.self.view_is) c.requires.within in
    rw (c.in_ok-bytes.ensures, ← c.self.view_is) (part_of_part _ c.self.inside.from c.self.inside.to c.args.from c.args.to c.requires.order within)
