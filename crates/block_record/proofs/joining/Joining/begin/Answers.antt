use Rattle.std.proofs.Common.{◌≤◌, length, sym, subst, arith}
use Rattle.block_record.specs.Joined.{Joined}
use Rattle.block_record.proofs.Joined.{apart_wider}
use Rattle.block_record.proofs.joining.Joining.begin.Goals as goal

pub invariant_of-self : goal.invariant_of-self
invariant_of-self c =
    let s = c.self.inside in
    let behind : s.rest.to ≤ c.args.from = subst (λ (j : Joined). j.reach ≤ c.args.from) (sym c.self.view_is) c.requires.behind in
    let within : c.args.end ≤ length s.bytes.items = subst (λ (j : Joined). c.args.end ≤ length j.bytes) (sym c.self.view_is) c.requires.within in
    record {
      before = apart_wider 0 s.rest.from 0 c.args.from s.whole.items (omega arith) (omega (arith, behind, c.self.invariant.within.order)) c.self.invariant.before;
      within = record { order = c.requires.order; below = within };
    }
