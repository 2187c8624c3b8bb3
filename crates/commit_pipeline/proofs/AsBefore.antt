-- Sessions that are as they were.
use Rattle.std.proofs.Common.{◌≡◌, suc, List, [], ◌∷◌, refl, ap, ◌∙◌, arith}
use Rattle.commit_pipeline.specs.declared.standing.Standing.{Standing}
use Rattle.commit_pipeline.specs.Meeting.{AreAsBefore}

pub as_before : (ss ss' : List Standing) → AreAsBefore ss ss' → ss' ≡ ss
as_before [] [] same = refl
as_before [] (s' ∷ ss') same = absurd (omega (arith, same.all))
as_before (s ∷ ss) [] same = absurd (omega (arith, same.all))
as_before (s ∷ ss) (s' ∷ ss') same =
    ap (λ (t : Standing). t ∷ ss') (same.each 0 s (omega arith))
    ∙ ap (λ (t : List Standing). s ∷ t) (as_before ss ss' (record {
      all = omega (arith, same.all);
      each = λ i d low. same.each (suc i) d (omega (arith, low));
    }))
