-- The number of a hold is a mark, and one such mark goes with the hold.
use Rattle.std.proofs.Common.{sym, subst, arith}
use Rattle.snapshot_view.specs.Views.{View, HoldsAt}
use Rattle.snapshot_view.proofs.Holding.{held_there, held_within, held_mark}
use Rattle.snapshot_view.proofs.Keeping.{holds_less}
use Rattle.snapshot_view.proofs.view.View.release.Goals as goal

pub remove-requires : goal.remove-requires
remove-requires c =
    let stands : HoldsAt c.self.inside.holds.items c.args.id.number c.number_of-number.result =
    subst (λ (v : View). HoldsAt v.holds c.args.id.number c.number_of-number.result) (sym c.self.view_is) c.number_of-number.ensures in
    held_mark c.self.inside.next c.self.inside.holds.items c.self.inside.marks c.number_of-number.result c.self.invariant.marked
    (held_there c.self.inside.holds.items c.args.id.number c.number_of-number.result stands)

pub index_mut-requires : goal.index_mut-requires
index_mut-requires c =
    let stands : HoldsAt c.self.inside.holds.items c.args.id.number c.number_of-number.result =
    subst (λ (v : View). HoldsAt v.holds c.args.id.number c.number_of-number.result) (sym c.self.view_is) c.number_of-number.ensures in
    omega (arith, held_within c.self.inside.holds.items c.args.id.number c.number_of-number.result stands)

pub invariant_of-self : goal.invariant_of-self
invariant_of-self c =
    let old : View = record {
      batches = c.self.inside.batches.value;
      floor = c.self.inside.floor;
      next = c.self.inside.next;
      holds = c.self.inside.holds.items;
      versions = c.self.inside.versions.versions;
    } in
    let stands : HoldsAt c.self.inside.holds.items c.args.id.number c.number_of-number.result =
    subst (λ (v : View). HoldsAt v.holds c.args.id.number c.number_of-number.result) (sym c.self.view_is) c.number_of-number.ensures in
    holds_less old c.self.inside.ranges c.self.inside.marks c.self.invariant c.args.id.number c.number_of-number.result c.remove.new.self stands
    c.remove.ensures.taken (c.remove.ensures.ascends c.self.invariant.ascends)
