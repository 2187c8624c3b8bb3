-- The number is offered, or held already: below the floor it is a mark just where it is held.
use Rattle.std.proofs.Common.{◌≡◌, ℕ, ◌<◌, ◌≤◌, ◌++◌, ◌∷◌, [], Bool, true, false, List, Option, Some, Contains, sym, ap, ◌∙◌, subst, arith}
use Rattle.snapshot_view.specs.Views.{View, IsView}
use Rattle.snapshot_view.proofs.Holding.{held_mark, mark_held}
use Rattle.snapshot_view.proofs.Keeping.{floor_to_next, holds_more}
use Rattle.snapshot_view.proofs.view.View.hold.Goals as goal
use Rattle.snapshot_view.proofs.view.View.hold.Goals.{else-at-self-2-via-then-at-self-2+else-not-is_among, else-at-self-2-via-else-at-self-2}

none_both : (b : Bool) → b ≡ true → b ≡ false → ⊥
none_both b is is_not = absurd cc

-- a number that is no mark is not held
pub returns-then-not-is_among-clause-gone : goal.returns-then-not-is_among-clause-gone
returns-then-not-is_among-clause-gone c floor e =
    let same : c.self.inside.floor ≡ floor = cc in
    let was : c.self.inside.floor ≡ c.args.self.now.floor = ap (λ (v : View). v.floor) c.self.view_is in (
      sym same ∙ was,
      omega (arith, same, c.if-at-self-2.true),
      λ held.
          let there : Contains c.self.inside.holds.items (Some c.args.at) =
          subst (λ (v : View). Contains v.holds (Some c.args.at)) (sym c.self.view_is) held in
          let mark : Contains c.as_slice.result.now c.args.at = subst (λ (l : List ℕ). Contains l c.args.at) (sym c.as_slice.ensures)
          (held_mark c.self.inside.next c.self.inside.holds.items c.self.inside.marks c.args.at c.self.invariant.marked there) in
          none_both c.is_among.result (c.is_among.ensures.1 mark) c.if-not-is_among.true,
    )

-- what is taken below the floor is held
held_below : (c : goal.After-push_reserved) → c.args.at < c.self.inside.floor → Contains c.self.inside.holds.items (Some c.args.at)
held_below c low = elim c.else-at-self-2.branch [
  | else-at-self-2-via-then-at-self-2+else-not-is_among w ↦
      let old : View = record {
        batches = c.self.inside.batches.value;
        floor = c.self.inside.floor;
        next = c.self.inside.next;
        holds = c.self.inside.holds.items;
        versions = c.self.inside.versions.versions;
      } in
      let up : c.self.inside.floor ≤ c.self.inside.next = floor_to_next old c.self.inside.ranges c.self.inside.marks c.self.invariant in
      mark_held c.self.inside.next c.self.inside.holds.items c.self.inside.marks c.args.at c.self.invariant.marked (omega (arith, low, up))
      (subst (λ (l : List ℕ). Contains l c.args.at) w.as_slice.ensures (w.is_among.ensures.0 w.if-not-is_among.false))
  | else-at-self-2-via-else-at-self-2 w ↦ absurd (omega (arith, low, w.if-at-self-2.false))
]

pub invariant_of-self-2 : goal.invariant_of-self-2
invariant_of-self-2 c =
    let old : View = record {
      batches = c.self.inside.batches.value;
      floor = c.self.inside.floor;
      next = c.self.inside.next;
      holds = c.self.inside.holds.items;
      versions = c.self.inside.versions.versions;
    } in
    subst (λ (hs : List (Option ℕ)). IsView (record old { holds = hs }) c.self.inside.ranges c.insert.new.self)
    (sym (c.push_reserved.ensures.items ∙ ap (λ (hs : List (Option ℕ)). hs ++ Some c.args.at ∷ []) c.reserve.ensures.items))
    (holds_more old c.self.inside.ranges c.self.inside.marks c.self.invariant c.args.at c.insert.new.self c.in_ok-insert.ensures.put
    (c.in_ok-insert.ensures.ascends c.self.invariant.ascends) (omega (arith, c.if-at-self.false)) (held_below c))

pub returns-clause-taken : goal.returns-clause-taken
returns-clause-taken c = (
  subst (λ (v : View). c.args.at ≤ v.next) c.self.view_is (omega (arith, c.if-at-self.false)),
  subst (λ (v : View). c.args.at < v.floor → Contains v.holds (Some c.args.at)) c.self.view_is (held_below c),
)
