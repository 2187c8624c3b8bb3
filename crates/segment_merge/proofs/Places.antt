-- Two places of one list.
use Rattle.std.proofs.Common.{◌≡◌, List, [], ◌∷◌, ◌++◌, sym, ap, ◌∙◌, refl}

-- two places of one list: one stands before the other, or they are one
pub data Places {X : Type 0} (xs : List X) (x : X) (ys xs' : List X) (x' : X) (ys' : List X) : Type 0 where
  sooner : (mid : List X) → xs' ≡ xs ++ x ∷ mid → Places xs x ys xs' x' ys'
  one : xs ≡ xs' → x ≡ x' → ys ≡ ys' → Places xs x ys xs' x' ys'
  later : (mid : List X) → xs ≡ xs' ++ x' ∷ mid → Places xs x ys xs' x' ys'

places_more : {X : Type 0} (a a' : X) (xs : List X) (x : X) (ys xs' : List X) (x' : X) (ys' : List X) → a ≡ a' → Places xs x ys xs' x' ys'
    → Places (a ∷ xs) x ys (a' ∷ xs') x' ys'
places_more a a' xs x ys xs' x' ys' e (sooner mid is) = sooner mid (ap (λ b. b ∷ xs') (sym e) ∙ ap (λ l. a ∷ l) is)
places_more a a' xs x ys xs' x' ys' e (one p q r) = one (ap (λ b. b ∷ xs) e ∙ ap (λ l. a' ∷ l) p) q r
places_more a a' xs x ys xs' x' ys' e (later mid is) = later mid (ap (λ b. b ∷ xs) e ∙ ap (λ l. a' ∷ l) is)

pub places : {X : Type 0} (xs : List X) (x : X) (ys xs' : List X) (x' : X) (ys' : List X) → xs ++ x ∷ ys ≡ xs' ++ x' ∷ ys' → Places xs x ys xs' x' ys'
places [] x ys [] x' ys' e =
    let heads : x ≡ x' = cc in
    let tails : ys ≡ ys' = cc in
    one refl heads tails
places [] x ys (a ∷ xs') x' ys' e = sooner xs' (let h : a ≡ x = cc in ap (λ b. b ∷ xs') h)
places (a ∷ xs) x ys [] x' ys' e = later xs (let h : a ≡ x' = cc in ap (λ b. b ∷ xs) h)
places (a ∷ xs) x ys (a' ∷ xs') x' ys' e =
    let heads : a ≡ a' = cc in
    let tails : xs ++ x ∷ ys ≡ xs' ++ x' ∷ ys' = cc in
    places_more a a' xs x ys xs' x' ys' heads (places xs x ys xs' x' ys' tails)
