-- The hold that goes does not stand, and the others do.
use Rattle.std.proofs.Common.{◌≡◌, ℕ, ◌<◌, Bool, false, List, Option, None, length, slice_set, sym, ap, ◌∙◌, subst, arith}
use Rattle.snapshot_view.specs.Views.{View, HoldStands}
use Rattle.snapshot_view.proofs.Rigs.{TellsHeld, one_released}
use Rattle.snapshot_view.proofs.Holding.{held_within}
use Rattle.snapshot_view.proofs.tests.Rig.release.Goals as goal

pub index_mut-requires : goal.index_mut-requires
index_mut-requires g c =
    let held : HoldStands c.self.inside.view.holds c.id-id.result.number =
    subst (λ (hs : List (Option ℕ)). HoldStands hs c.id-id.result.number) (sym c.self.view_is) c.id-id.ensures.held in
    let within : c.id-id.result.number < length c.self.inside.view.holds = held_within c.self.inside.view.holds c.id-id.result.number held.0 held.1 in
    omega (arith, within, c.id-id.ensures.number, c.self.invariant.0)

pub invariant_of-self : goal.invariant_of-self
invariant_of-self g c =
    let holds : c.release.new.self.holds ≡ slice_set c.self.inside.view.holds c.args.number None =
    ap (λ (v : View). v.holds) c.release.ensures
    ∙ ap (λ (n : ℕ). slice_set c.self.inside.view.holds n None) c.id-id.ensures.number in
    subst (λ (hs : List (Option ℕ)). TellsHeld (slice_set c.self.inside.stand.items c.args.number false) hs) (sym holds)
    (one_released c.self.inside.stand.items c.self.inside.view.holds c.args.number c.self.invariant)
