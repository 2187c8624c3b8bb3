-- What a scan has left to give, version by version.
use Rattle.std.proofs.Common.{◌≡◌, ℕ, true, false, List, [], ◌∷◌, Option, Some, refl, sym, ap, ◌∙◌}
use Rattle.std.proofs.lemmas.Bool.{cond-true, cond-false}
use Rattle.arena_list.specs.Versions.{KeyVersion}
use Rattle.range_cover.specs.declared.mark.RangeMark.{RangeMark}
use Rattle.snapshot_view.specs.Scans.{KeyValue, is_passed, open_value, with_pair, pairs_left}

module _ (at : ℕ) (ranges : List RangeMark) (met : Option (List ℕ)) where
  pub left_none : pairs_left at ranges met [] ≡ []
  unfolding pairs_left
  left_none = refl

  module _ (version : KeyVersion) (versions : List KeyVersion) where
    -- what one gives that is not passed over, before the others
    abbrev given_with : Option (List ℕ) → List KeyValue
    given_with value = with_pair version.key value (pairs_left at ranges (Some version.key) versions)

    pub left_passed : is_passed at met version ≡ true → pairs_left at ranges met (version ∷ versions) ≡ pairs_left at ranges met versions
    unfolding pairs_left
    left_passed e = cond-true (is_passed at met version) (pairs_left at ranges met versions) (given_with (open_value ranges at version)) e

    pub left_here : is_passed at met version ≡ false → pairs_left at ranges met (version ∷ versions) ≡ given_with (open_value ranges at version)
    unfolding pairs_left
    left_here e = cond-false (is_passed at met version) (pairs_left at ranges met versions) (given_with (open_value ranges at version)) e

    -- the same, of what is given and where a walk stands
    pub left_given : (walk : List KeyVersion) (value : Option (List ℕ)) → walk ≡ version ∷ versions → is_passed at met version ≡ false
        → value ≡ open_value ranges at version → pairs_left at ranges met walk ≡ given_with value
    left_given walk value is e has = ap (pairs_left at ranges met) is ∙ left_here e ∙ ap given_with (sym has)
