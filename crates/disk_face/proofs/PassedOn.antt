-- What a call adds to the calls of a disk and of the one over it.
use Rattle.std.proofs.Common.{◌≡◌, List, [], ◌∷◌, sym, subst}
use Rattle.disk_face.specs.declared.OpId.{OpId}
use Rattle.disk_face.specs.declared.Progress.{Progress}
use Rattle.disk_face.specs.declared.Progress.TheVariants.{Pending}
use Rattle.disk_face.specs.View.{Call, was_polled}
use Rattle.disk_face.specs.Script.{ArePassedOn, none, passed, held}

pub passed_all : (calls : List Call) → ArePassedOn calls calls
passed_all [] = none
passed_all (call ∷ calls) = passed call calls calls (passed_all calls)

-- both were called
pub passed_one : (call : Call) (inner outer inner' outer' : List Call) → ArePassedOn inner outer → inner' ≡ call ∷ inner → outer' ≡ call ∷ outer
    → ArePassedOn inner' outer'
passed_one call inner outer inner' outer' is in_is out_is =
    subst (λ (i : List Call). ArePassedOn i outer') (sym in_is)
    (subst (ArePassedOn (call ∷ inner)) (sym out_is) (passed call inner outer is))

-- the outer one answered pending by itself
pub held_one : (id : OpId) (inner outer inner' outer' : List Call) (answer : Progress) → answer ≡ Pending → ArePassedOn inner outer → inner' ≡ inner
    → outer' ≡ was_polled id answer ∷ outer → ArePassedOn inner' outer'
held_one id inner outer inner' outer' answer pending is in_is out_is =
    subst (λ (i : List Call). ArePassedOn i outer') (sym in_is) (subst (ArePassedOn inner) (sym out_is)
    (subst (λ (a : Progress). ArePassedOn inner (was_polled id a ∷ outer)) (sym pending) (held id inner outer is)))
