-- Where the leads of two keys differ, they are in the order of the keys. Where they do not, and one of the keys ends within its lead, their lengths are.
use Rattle.std.proofs.Common.{◌≡◌, ◌⊎◌, inl, inr, ℕ, zero, suc, ◌+◌, ◌*◌, ◌^◌, ◌<◌, ◌≤◌, List, [], ◌∷◌, ◌++◌, length, take, drop, replicate, Ordering, Less, Equal, Greater, nat_cmp, refl, sym, ap, subst, ◌∙◌, arith}
use Rattle.std.proofs.Math.Nat.{pow-suc, one-le-pow, mul_comm}
use Rattle.std.proofs.lemmas.Nat.{mul-add-lt}
use Rattle.std.proofs.lemmas.Bool.Decides.{nat_tests}
use Rattle.std.specs.Int.{w64, from_be_bytes}
use Rattle.std.specs.Ordering.{ordering_then, ordering_reverse}
use Rattle.std.specs.Cmp.{IsTotalOrder}
use Rattle.std.specs.Cmp.Lexicographic.{slice_cmp}
use Rattle.std.proofs.lemmas.Cmp.{ranked, tied_itself, nat_cmp_total, nat_list_cmp_total}
use Rattle.arena_list.specs.Leads.{lead_of, AreBytes}
use Rattle.arena_list.proofs.Orders.{keys_equal}

-- the number that so many first bytes spell, zeros where there are fewer
abbrev pub number_of : ℕ → List ℕ → ℕ
number_of zero bytes = 0
number_of (suc n) [] = 0
number_of (suc n) (byte ∷ bytes) = byte * 256 ^ n + number_of n bytes

-- ---- the lead is that of eight bytes

spelt : (bytes : List ℕ) → length bytes ≡ 8 → from_be_bytes w64 bytes ≡ number_of 8 bytes
spelt [] len = absurd (omega (arith, len))
spelt (a ∷ []) len = absurd (omega (arith, len))
spelt (a ∷ b ∷ []) len = absurd (omega (arith, len))
spelt (a ∷ b ∷ c ∷ []) len = absurd (omega (arith, len))
spelt (a ∷ b ∷ c ∷ d ∷ []) len = absurd (omega (arith, len))
spelt (a ∷ b ∷ c ∷ d ∷ e ∷ []) len = absurd (omega (arith, len))
spelt (a ∷ b ∷ c ∷ d ∷ e ∷ f ∷ []) len = absurd (omega (arith, len))
spelt (a ∷ b ∷ c ∷ d ∷ e ∷ f ∷ g ∷ []) len = absurd (omega (arith, len))
spelt (a ∷ b ∷ c ∷ d ∷ e ∷ f ∷ g ∷ h ∷ bytes) len = omega arith

nothing_spelt : (n count : ℕ) → number_of n (take n (replicate count 0)) ≡ 0
nothing_spelt zero count = refl
nothing_spelt (suc n) zero = refl
nothing_spelt (suc n) (suc count) = omega (arith, nothing_spelt n count)

-- zeros at the end add nothing
padded : (n count : ℕ) (bytes : List ℕ) → number_of n (take n (bytes ++ replicate count 0)) ≡ number_of n bytes
padded zero count bytes = refl
padded (suc n) count [] = nothing_spelt (suc n) count
padded (suc n) count (byte ∷ bytes) = ap (λ (rest : ℕ). byte * 256 ^ n + rest) (padded n count bytes)

eight : (bytes : List ℕ) → length (take 8 (bytes ++ replicate 8 0)) ≡ 8
eight [] = refl
eight (a ∷ []) = refl
eight (a ∷ b ∷ []) = refl
eight (a ∷ b ∷ c ∷ []) = refl
eight (a ∷ b ∷ c ∷ d ∷ []) = refl
eight (a ∷ b ∷ c ∷ d ∷ e ∷ []) = refl
eight (a ∷ b ∷ c ∷ d ∷ e ∷ f ∷ []) = refl
eight (a ∷ b ∷ c ∷ d ∷ e ∷ f ∷ g ∷ []) = refl
eight (a ∷ b ∷ c ∷ d ∷ e ∷ f ∷ g ∷ h ∷ bytes) = refl

lead_is : (key : List ℕ) → lead_of key ≡ number_of 8 key
lead_is key = spelt (take 8 (key ++ replicate 8 0)) (eight key) ∙ padded 8 8 key

-- ---- the order

number_fits : (n : ℕ) (bytes : List ℕ) → AreBytes bytes → number_of n bytes < 256 ^ n
number_fits zero bytes are = omega arith
number_fits (suc n) [] are = one-le-pow (suc n) 256 (omega arith)
number_fits (suc n) (byte ∷ bytes) are =
    let rest = number_fits n bytes (λ place. are (suc place)) in
    omega (arith, pow-suc 256 n, mul-add-lt byte (256 ^ n) (number_of n bytes) 256 (are 0) rest)

-- the lesser number spells the lesser bytes
less_spelt : (n : ℕ) (xs ys : List ℕ) → AreBytes xs → AreBytes ys → number_of n xs < number_of n ys → slice_cmp nat_cmp xs ys ≡ Less
less_spelt zero xs ys are_xs are_ys less = absurd (omega (arith, less))
less_spelt (suc n) [] [] are_xs are_ys less = absurd (omega (arith, less))
less_spelt (suc n) [] (y ∷ ys) are_xs are_ys less = refl
less_spelt (suc n) (x ∷ xs) [] are_xs are_ys less = absurd (omega (arith, less))
less_spelt (suc n) (x ∷ xs) (y ∷ ys) are_xs are_ys less =
    go (nat_cmp x y) refl (less_spelt n xs ys (λ place. are_xs (suc place)) (λ place. are_ys (suc place)))
  where
    fits : number_of n ys < 256 ^ n
    fits = number_fits n ys (λ place. are_ys (suc place))

    rest : x ≡ y → number_of n xs < number_of n ys
    rest e = omega (arith, less, ap (λ (byte : ℕ). byte * 256 ^ n) e)

    go : (o : Ordering) → o ≡ nat_cmp x y → (number_of n xs < number_of n ys → slice_cmp nat_cmp xs ys ≡ Less)
        → ordering_then o (slice_cmp nat_cmp xs ys) ≡ Less
    go Less is later = refl
    go Equal is later = later (rest (ranked x y Equal is))
    go Greater is later =
        absurd (omega (arith, less, mul_comm x (256 ^ n), mul-add-lt y (256 ^ n) (number_of n ys) x (ranked x y Greater is) fits))

-- the key with the lesser lead is the lesser one
pub lead_less : (one other : List ℕ) → AreBytes one → AreBytes other → lead_of one < lead_of other → slice_cmp nat_cmp one other ≡ Less
lead_less one other are_one are_other less =
    less_spelt 8 one other are_one are_other (subst (λ (m : ℕ). m < number_of 8 other) (lead_is one)
    (subst (λ (m : ℕ). lead_of one < m) (lead_is other) less))

-- and the one with the greater lead is the greater one
pub lead_greater : (one other : List ℕ) → AreBytes one → AreBytes other → lead_of other < lead_of one → slice_cmp nat_cmp one other ≡ Greater
lead_greater one other are_one are_other less =
    IsTotalOrder.antisymm nat_list_cmp_total one other
    ∙ ap ordering_reverse (lead_less other one are_other are_one less)

-- ---- the same lead

more_each : (m n : ℕ) → nat_cmp m n ≡ nat_cmp (suc m) (suc n)
more_each m n = grind (arith, nat_tests)

shorter : (n x y : ℕ) (xs ys : List ℕ) → (length (x ∷ xs) ≤ suc n) ⊎ (length (y ∷ ys) ≤ suc n) → (length xs ≤ n) ⊎ (length ys ≤ n)
shorter n x y xs ys (inl short) = inl (omega (arith, short))
shorter n x y xs ys (inr short) = inr (omega (arith, short))

-- the same number spells keys in the order of their lengths, where one of them ends within it: the longer one goes on with zeros there
same_spelt : (n : ℕ) (xs ys : List ℕ) → AreBytes xs → AreBytes ys → (length xs ≤ n) ⊎ (length ys ≤ n) → number_of n xs ≡ number_of n ys
    → slice_cmp nat_cmp xs ys ≡ nat_cmp (length xs) (length ys)
same_spelt n [] [] are_xs are_ys short same = refl
same_spelt n [] (y ∷ ys) are_xs are_ys short same = grind (arith, nat_tests)
same_spelt n (x ∷ xs) [] are_xs are_ys short same = grind (arith, nat_tests)
same_spelt zero (x ∷ xs) (y ∷ ys) are_xs are_ys (inl short) same = absurd (omega (arith, short))
same_spelt zero (x ∷ xs) (y ∷ ys) are_xs are_ys (inr short) same = absurd (omega (arith, short))
same_spelt (suc n) (x ∷ xs) (y ∷ ys) are_xs are_ys short same =
    go (nat_cmp x y) refl (same_spelt n xs ys (λ place. are_xs (suc place)) (λ place. are_ys (suc place)) (shorter n x y xs ys short))
  where
    fit_xs : number_of n xs < 256 ^ n
    fit_xs = number_fits n xs (λ place. are_xs (suc place))

    fit_ys : number_of n ys < 256 ^ n
    fit_ys = number_fits n ys (λ place. are_ys (suc place))

    rest : x ≡ y → number_of n xs ≡ number_of n ys
    rest e = omega (arith, same, ap (λ (byte : ℕ). byte * 256 ^ n) e)

    go : (o : Ordering) → o ≡ nat_cmp x y → (number_of n xs ≡ number_of n ys → slice_cmp nat_cmp xs ys ≡ nat_cmp (length xs) (length ys))
        → ordering_then o (slice_cmp nat_cmp xs ys) ≡ nat_cmp (suc (length xs)) (suc (length ys))
    go Less is later =
        absurd (omega (arith, same, mul_comm y (256 ^ n), mul-add-lt x (256 ^ n) (number_of n xs) y (ranked x y Less is) fit_xs))
    go Equal is later = later (rest (ranked x y Equal is)) ∙ more_each (length xs) (length ys)
    go Greater is later =
        absurd (omega (arith, same, mul_comm x (256 ^ n), mul-add-lt y (256 ^ n) (number_of n ys) x (ranked x y Greater is) fit_ys))

-- keys with the same lead, one of which ends within it, are in the order of their lengths
pub lead_same : (one other : List ℕ) → AreBytes one → AreBytes other → (length one ≤ 8) ⊎ (length other ≤ 8) → lead_of one ≡ lead_of other
    → slice_cmp nat_cmp one other ≡ nat_cmp (length one) (length other)
lead_same one other are_one are_other short same = same_spelt 8 one other are_one are_other short (sym (lead_is one) ∙ same ∙ lead_is other)

-- so two of one length are equal
pub lead_tells : (one other : List ℕ) → AreBytes one → AreBytes other → length one ≡ length other → length one ≤ 8 → lead_of one ≡ lead_of other
    → one ≡ other
lead_tells one other are_one are_other len short same =
    keys_equal one other
    (lead_same one other are_one are_other (inl short) same ∙ ap (nat_cmp (length one)) (sym len) ∙ tied_itself nat_cmp_total (length one))

-- where a key has fewer bytes, its lead is read from all of them and zeros
pub short_lead : (key : List ℕ) → length key < 8 → from_be_bytes w64 (key ++ drop (length key) (replicate 8 0)) ≡ lead_of key
short_lead [] short = refl
short_lead (a ∷ []) short = refl
short_lead (a ∷ b ∷ []) short = refl
short_lead (a ∷ b ∷ c ∷ []) short = refl
short_lead (a ∷ b ∷ c ∷ d ∷ []) short = refl
short_lead (a ∷ b ∷ c ∷ d ∷ e ∷ []) short = refl
short_lead (a ∷ b ∷ c ∷ d ∷ e ∷ f ∷ []) short = refl
short_lead (a ∷ b ∷ c ∷ d ∷ e ∷ f ∷ g ∷ []) short = refl
short_lead (a ∷ b ∷ c ∷ d ∷ e ∷ f ∷ g ∷ h ∷ bytes) short = absurd (omega (arith, short))

-- a lead is a number of eight bytes
pub lead_fits : (key : List ℕ) → AreBytes key → lead_of key < 2 ^ 64
lead_fits key are = omega (arith, lead_is key, number_fits 8 key are)
