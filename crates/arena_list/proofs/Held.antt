-- What a mark shows is kept, and is one.
use Rattle.std.proofs.Common.{◌≡◌, ◌⊎◌, inl, inr, ◌<◌, List, [], ◌∷◌, Some, None, Contains, refl, sym, ap, ◌∙◌, subst, arith}
use Rattle.wal_base.proofs.Laws.{none_within, within_cases}
use Rattle.arena_list.specs.Versions.{KeyVersion, AscendVersions, Precedes}
use Rattle.arena_list.specs.Theorems.{MarksKeepAnswers, NewestIsOne}
use Rattle.arena_list.proofs.Sweeping.{greater_first}

pub marks_keep : MarksKeepAnswers
marks_keep old new marks mark key None kept there none = λ other h about. none other ((kept other).0 h).2.stands about
marks_keep old new marks mark key (Some version) kept there (newest, about) = (
  record {
    stands = (kept version).1 (mark, there, newest);
    under = newest.under;
    last = λ other h same low. newest.last other ((kept other).0 h).2.stands same low;
  },
  about,
)

-- two versions of one key and one number are one
same_spot : (versions : List KeyVersion) (one other : KeyVersion) → AscendVersions versions → Contains versions one → Contains versions other
    → one.key ≡ other.key → one.number ≡ other.number → one ≡ other
unfolding AscendVersions
same_spot [] one other a h k same at = absurd (none_within one h)
same_spot (v ∷ versions) one other a h k same at =
    go (λ x y. same_spot versions one other a.1 x y same at) (within_cases v versions one h) (within_cases v versions other k)
  where
    go : (Contains versions one → Contains versions other → one ≡ other) → (v ≡ one) ⊎ Contains versions one → (v ≡ other) ⊎ Contains versions other → one ≡ other
    go rest (inl e) (inl f) = sym e ∙ f
    go rest (inl e) (inr later) =
        let l : other.number < one.number =
        greater_first one other (subst (λ (w : KeyVersion). Precedes w other) e (a.0 other later)) same in
        absurd (omega (arith, l, at))
    go rest (inr later) (inl f) =
        let l : one.number < other.number =
        greater_first other one (subst (λ (w : KeyVersion). Precedes w one) f (a.0 one later)) (sym same) in
        absurd (omega (arith, l, at))
    go rest (inr one_later) (inr other_later) = rest one_later other_later

pub newest_is_one : NewestIsOne
newest_is_one versions key below None None a x y = refl
newest_is_one versions key below None (Some other) a x (y, about) = absurd (omega (arith, x other y.stands about, y.under))
newest_is_one versions key below (Some one) None a (x, about) y = absurd (omega (arith, y one x.stands about, x.under))
newest_is_one versions key below (Some one) (Some other) a (x, about) (y, told) =
    ap (λ (v : KeyVersion). Some v)
    (same_spot versions one other a x.stands y.stands (about ∙ sym told)
    (omega (arith, x.last other y.stands (told ∙ sym about) y.under, y.last one x.stands (about ∙ sym told) x.under)))
