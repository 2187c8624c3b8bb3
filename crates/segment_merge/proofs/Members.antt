-- What parts of a list contain.
use Rattle.std.proofs.Common.{◌≡◌, ◌⊎◌, ℕ, ◌+◌, ◌-◌, ◌≤◌, ◌<◌, List, [], ◌∷◌, ◌++◌, length, get_or, take, drop, sym, subst, ap, ◌∙◌, arith}
use Rattle.std.specs.Prelude.{Contains, All}
use Rattle.segment_merge.specs.Ranges.{between}
use Rattle.std.proofs.lemmas.List.{take_more, take-append-drop, take-take, drop-take}
use Rattle.std.proofs.lemmas.List.Elements.{Contains-append_left, Contains-append_right, Contains-append_cases, All-push}

pub within_take : {X : Type 0} (n : ℕ) (xs : List X) (x : X) → Contains (take n xs) x → Contains xs x
within_take n xs x h = subst (λ ys. Contains ys x) (take-append-drop n xs) (Contains-append_left (take n xs) (drop n xs) x h)

pub within_drop : {X : Type 0} (n : ℕ) (xs : List X) (x : X) → Contains (drop n xs) x → Contains xs x
within_drop n xs x h = subst (λ ys. Contains ys x) (take-append-drop n xs) (Contains-append_right (take n xs) (drop n xs) x h)

pub within_more : {X : Type 0} (n m : ℕ) (xs : List X) (x : X) → n ≤ m → Contains (take n xs) x → Contains (take m xs) x
within_more n m xs x le h = within_take n (take m xs) x (subst (λ ys. Contains ys x) (sym (take-take n m xs le)) h)

-- what holds of each of the first elements, and of the next one
pub all_more : {X : Type 0} (P : X → Type 0) (xs : List X) (i : ℕ) (x : X) → i < length xs → x ≡ get_or xs i x → All P (take i xs) → P x
    → All P (take (i + 1) xs)
all_more P xs i x below is all here = subst (All P) (sym (take_more xs i x below ∙ ap (λ y. take i xs ++ y ∷ []) (sym is))) (All-push P (take i xs) x all here)

pub take_between : {X : Type 0} (from to : ℕ) (xs : List X) → from ≤ to → take to xs ≡ take from xs ++ between from to xs
take_between from to xs le =
    let e : from + (to - from) ≡ to = omega (arith, le) in
    sym (take-append-drop from (take to xs))
    ∙ ap (λ ys. ys ++ drop from (take to xs)) (take-take from to xs le)
    ∙ ap (λ ys. take from xs ++ ys) (ap (λ n. drop from (take n xs)) (sym e) ∙ drop-take from (to - from) xs)

pub within_between : {X : Type 0} (from to : ℕ) (xs : List X) (x : X) → from ≤ to → Contains (between from to xs) x → Contains (take to xs) x
within_between from to xs x le h = subst (λ ys. Contains ys x) (sym (take_between from to xs le))
    (Contains-append_right (take from xs) (between from to xs) x h)

pub between_cases : {X : Type 0} (from to : ℕ) (xs : List X) (x : X) → from ≤ to → Contains (take to xs) x → Contains (take from xs) x
    ⊎ Contains (between from to xs) x
between_cases from to xs x le h = Contains-append_cases (take from xs) (between from to xs) x (subst (λ ys. Contains ys x) (take_between from to xs le) h)
