-- The hold that comes stands.
use Rattle.std.proofs.Common.{◌≡◌, ℕ, ◌++◌, ◌∷◌, [], Bool, true, List, Option, Some, sym, ap, subst}
use Rattle.snapshot_view.specs.Views.{View}
use Rattle.snapshot_view.proofs.Rigs.{TellsHeld, one_held}
use Rattle.snapshot_view.proofs.tests.Rig.hold.Goals as goal

pub invariant_of-self-2 : goal.invariant_of-self-2
invariant_of-self-2 g c =
    let more : c.push.new.self.items ≡ c.self.inside.stand.items ++ true ∷ [] = rw c.expect.ensures at c.push.ensures.items in
    let holds : c.hold.new.self.holds ≡ c.self.inside.view.holds ++ Some c.args.at ∷ [] = ap (λ (v : View). v.holds) c.in_ok-id.ensures.held in
    subst (λ (tests : List Bool). TellsHeld tests c.hold.new.self.holds) (sym more)
    (subst (λ (hs : List (Option ℕ)). TellsHeld (c.self.inside.stand.items ++ true ∷ []) hs) (sym holds)
    (one_held c.self.inside.stand.items c.self.inside.view.holds c.args.at c.self.invariant))
