-- What a comparison of two words tells.
use Rattle.std.proofs.Common.{◌≡◌, ◌≢◌, ℕ, Bool, true, false, not, List, refl, sym, ap, ◌∙◌}
use Rattle.std.specs.Str.{bytes_eq}
use Rattle.std.proofs.lemmas.Slice.Eq.{bytes_eq-Decides}

module _ (word text slice : List ℕ) (b : Bool) (e : b ≡ not (bytes_eq word slice)) (is : slice ≡ text) where
  pub differs : b ≡ true → word ≢ text
  differs unlike same =
      let equal = (bytes_eq-Decides word slice).1 (same ∙ sym is) in
      let no : true ≡ false = sym unlike ∙ e ∙ ap not equal in cc

  pub agrees : b ≡ false → word ≡ text
  agrees like = (bytes_eq-Decides word slice).0 (flipped (bytes_eq word slice) (sym e ∙ like)) ∙ is
    where
      flipped : (c : Bool) → not c ≡ false → c ≡ true
      flipped true f = refl
      flipped false f = absurd cc
