use Rattle.std.proofs.Common.{◌≤◌, length, sym, subst, arith}
use Rattle.block_record.specs.Joined.{Joined, AreApart}
use Rattle.block_record.proofs.Joined.{apart_push}
use Rattle.block_record.proofs.joining.Joining.end.Goals as goal

pub invariant_of-self-2 : goal.invariant_of-self-2
invariant_of-self-2 c =
    let s = c.self.inside in
    let behind : s.rest.to ≤ c.args.end = subst (λ (j : Joined). j.reach ≤ c.args.end) (sym c.self.view_is) c.requires.behind in
    let within : c.args.end ≤ length s.bytes.items = subst (λ (j : Joined). c.args.end ≤ length j.bytes) (sym c.self.view_is) c.requires.within in
    let pushed = apart_push 0 s.rest.from c.args.end s.whole.items s.rest c.self.invariant.before
    (record { above = omega arith; order = c.self.invariant.within.order; below = behind }) in
    record {
      before = subst (AreApart 0 c.args.end) (sym c.in_ok-push.ensures.items) pushed;
      within = record { order = omega arith; below = within };
    }
