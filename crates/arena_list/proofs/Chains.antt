-- Places that lead on to one another: they never come back, so that one place more or less is a matter of two links.
use Rattle.std.proofs.Common.{◌≡◌, ◌≢◌, ◌⊎◌, inl, inr, ℕ, zero, suc, ◌<◌, ◌≤◌, cond, eqb, List, [], ◌∷◌, ◌++◌, length, Contains, refl, sym, ap, ap₂, ◌∙◌, subst, arith, length-append, ne_eqb}
use Rattle.std.proofs.lemmas.Bool.{cond-false, cases_eq}
use Rattle.std.proofs.lemmas.List.Elements.{Contains-append_left, Contains-append_right, Contains-append_cases}
use Rattle.wal_base.proofs.Laws.{none_within, within_head, within_tail, within_cases}
use Rattle.arena_list.specs.Chains.{LeadsAlong, path, last_of}

-- ---- lists

-- where an element stands
pub split_at : {X : Type 0} (xs : List X) (x : X) → Contains xs x → (front : List X) × (back : List X) × (xs ≡ front ++ x ∷ back)
split_at [] x h = absurd (none_within x h)
split_at {X} (y ∷ ys) x h = elim (within_cases y ys x h) [
  | inl is ↦ ([], ys, ap (λ (w : X). w ∷ ys) is)
  | inr rest ↦ let s = split_at ys x rest in (y ∷ s.0, s.1, ap (λ (l : List X). y ∷ l) s.2)
]

-- an element of a list with one more at its place
pub amid_there : {X : Type 0} (xs ys : List X) (x : X) → Contains (xs ++ x ∷ ys) x
amid_there xs ys x = Contains-append_right xs (x ∷ ys) x (within_head x ys)

pub amid_more : {X : Type 0} (xs ys : List X) (x y : X) → Contains (xs ++ ys) y → Contains (xs ++ x ∷ ys) y
amid_more xs ys x y h = elim (Contains-append_cases xs ys y h) [
  | inl front ↦ Contains-append_left xs (x ∷ ys) y front
  | inr back ↦ Contains-append_right xs (x ∷ ys) y (within_tail x ys y back)
]

pub amid_cases : {X : Type 0} (xs ys : List X) (x y : X) → Contains (xs ++ x ∷ ys) y → (x ≡ y) ⊎ Contains (xs ++ ys) y
amid_cases xs ys x y h = elim (Contains-append_cases xs (x ∷ ys) y h) [
  | inl front ↦ inr (Contains-append_left xs ys y front)
  | inr back ↦ elim (within_cases x ys y back) [ inl is ↦ inl is | inr rest ↦ inr (Contains-append_right xs ys y rest) ]
]

pub within_or_not : (xs : List ℕ) (x : ℕ) → Contains xs x ⊎ (Contains xs x → ⊥)
within_or_not [] x = inr (λ h. none_within x h)
within_or_not (y ∷ ys) x = elim (cases_eq y x) [
  | inl is ↦ inl (subst (Contains (y ∷ ys)) is (within_head y ys))
  | inr other ↦ elim (within_or_not ys x) [
    | inl there ↦ inl (within_tail y ys x there)
    | inr none ↦ inr (λ h. ⊎_or (within_cases y ys x h) other none)
  ]
]
  where
    ⊎_or : {P Q : Type 0} → P ⊎ Q → (P → ⊥) → (Q → ⊥) → ⊥
    ⊎_or (inl p) f g = f p
    ⊎_or (inr q) f g = g q

-- No element stands twice.
abbrev pub AreDistinct : List ℕ → Type 0
AreDistinct [] = Unit {0}
AreDistinct (x ∷ xs) = (Contains xs x → ⊥) × AreDistinct xs

pub distinct_out : (xs ys : List ℕ) (x : ℕ) → AreDistinct (xs ++ x ∷ ys) → AreDistinct (xs ++ ys) × (Contains (xs ++ ys) x → ⊥)
distinct_out [] ys x d = (d.1, d.0)
distinct_out (w ∷ xs) ys x d =
    let rest = distinct_out xs ys x d.1 in (
      (λ h. d.0 (amid_more xs ys x w h), rest.0),
      λ h. elim (within_cases w (xs ++ ys) x h) [
        | inl is ↦ d.0 (subst (Contains (xs ++ x ∷ ys)) (sym is) (amid_there xs ys x))
        | inr there ↦ rest.1 there
      ],
    )

-- There are no more of them than numbers below a bound.
pub distinct_fit : (n : ℕ) (xs : List ℕ) → AreDistinct xs → ((x : ℕ) → Contains xs x → x < n) → length xs ≤ n
distinct_fit zero [] d below = omega arith
distinct_fit zero (x ∷ xs) d below = absurd (omega (arith, below x (within_head x xs)))
distinct_fit (suc n) xs d below = elim (within_or_not xs n) [
  | inl there ↦ with_it (λ ys d b. distinct_fit n ys d b) (split_at xs n there)
  | inr none ↦ let l : length xs ≤ n = distinct_fit n xs d (λ x h. smaller x (below x h) (λ e. none (subst (Contains xs) e h))) in omega arith
]
  where
    smaller : (x : ℕ) → x < suc n → (x ≡ n → ⊥) → x < n
    smaller x less other = elim (cases_eq x n) [ inl is ↦ absurd (other is) | inr apart ↦ omega (arith, less, apart) ]

    with_it : ((ys : List ℕ) → AreDistinct ys → ((x : ℕ) → Contains ys x → x < n) → length ys ≤ n)
        → (front : List ℕ) × (back : List ℕ) × (xs ≡ front ++ n ∷ back) → length xs ≤ suc n
    with_it fit (front, back, is) =
        let out = distinct_out front back n (subst AreDistinct is d) in
        let l : length (front ++ back) ≤ n =
        fit (front ++ back) out.0
        (λ x h. smaller x (below x (subst (λ (l : List ℕ). Contains l x) (sym is) (amid_more front back n x h)))
        (λ e. out.1 (subst (Contains (front ++ back)) e h))) in
        omega (arith, ap length is, length-append front (n ∷ back), length-append front back, l)

-- ---- what follows

-- two lists that follow from one place are the same
pub one_path : (next : ℕ → ℕ) (first : ℕ) (xs ys : List ℕ) → LeadsAlong next first xs → LeadsAlong next first ys → xs ≡ ys
one_path next first [] [] a b = refl
one_path next first [] (y ∷ ys) a b = absurd (b.1 (sym b.0 ∙ a))
one_path next first (x ∷ xs) [] a b = absurd (a.1 (sym a.0 ∙ b))
one_path next first (x ∷ xs) (y ∷ ys) a b =
    let same : x ≡ y = sym a.0 ∙ b.0 in
    ap₂ ◌∷◌ same (one_path next (next x) xs ys a.2 (subst (λ (p : ℕ). LeadsAlong next (next p) ys) (sym same) b.2))

pub follows_rest : (next : ℕ → ℕ) (first : ℕ) (xs ys : List ℕ) (at : ℕ) → LeadsAlong next first (xs ++ at ∷ ys) → LeadsAlong next (next at) ys
follows_rest next first [] ys at f = f.2
follows_rest next first (x ∷ xs) ys at f = follows_rest next (next x) xs ys at f.2

pub follows_after : (next : ℕ → ℕ) (start : ℕ) (xs ys : List ℕ) → LeadsAlong next (next start) (xs ++ ys) → LeadsAlong next (next (last_of start xs)) ys
follows_after next start [] ys f = f
follows_after next start (x ∷ xs) ys f = follows_after next x xs ys f.2

pub not_the_end : (next : ℕ → ℕ) (first : ℕ) (xs : List ℕ) → LeadsAlong next first xs → (x : ℕ) → Contains xs x → x ≢ 0
not_the_end next first [] f p h = absurd (none_within p h)
not_the_end next first (x ∷ xs) f p h = elim (within_cases x xs p h) [
  | inl is ↦ λ e. f.1 (is ∙ e)
  | inr rest ↦ not_the_end next (next x) xs f.2 p rest
]

-- no place comes back
pub never_back : (next : ℕ → ℕ) (first at : ℕ) (rest : List ℕ) → LeadsAlong next first (at ∷ rest) → Contains rest at → ⊥
never_back next first at rest f h =
    let s : (front : List ℕ) × (back : List ℕ) × (rest ≡ front ++ at ∷ back) = split_at rest at h in
    let again : LeadsAlong next (next at) (s.0 ++ at ∷ s.1) = subst (LeadsAlong next (next at)) s.2 f.2 in
    let same : s.0 ++ at ∷ s.1 ≡ s.1 = one_path next (next at) (s.0 ++ at ∷ s.1) s.1 again (follows_rest next (next at) s.0 s.1 at again) in
    omega (arith, ap length same, length-append s.0 (at ∷ s.1))

pub follows_distinct : (next : ℕ → ℕ) (first : ℕ) (xs : List ℕ) → LeadsAlong next first xs → AreDistinct xs
follows_distinct next first [] f = tt
follows_distinct next first (x ∷ xs) f = (never_back next first x xs f, follows_distinct next (next x) xs f.2)

pub follows_distinct_head : (next : ℕ → ℕ) (first : ℕ) (xs : List ℕ) → LeadsAlong next first xs → AreDistinct (0 ∷ xs)
follows_distinct_head next first xs f = (λ h. not_the_end next first xs f 0 h refl, follows_distinct next first xs f)

-- the function gives the list that follows
path_is : (next : ℕ → ℕ) (first : ℕ) (xs : List ℕ) (steps : ℕ) → LeadsAlong next first xs → length xs ≤ steps → path next first steps ≡ xs
unfolding path
path_is next first [] zero f fits = refl
path_is next first [] (suc steps) f fits = ap (λ (n : ℕ). cond (eqb n 0) [] (n ∷ path next (next n) steps)) f
path_is next first (x ∷ xs) zero f fits = absurd (omega (arith, fits))
path_is next first (x ∷ xs) (suc steps) f fits =
    cond-false (eqb first 0) [] (first ∷ path next (next first) steps) (ne_eqb first 0 (λ e. f.1 (sym f.0 ∙ e)))
    ∙ ap₂ ◌∷◌ f.0 (ap (λ (n : ℕ). path next (next n) steps) f.0 ∙ path_is next (next x) xs steps f.2 (omega (arith, fits)))

pub path_of : (next : ℕ → ℕ) (first : ℕ) (xs : List ℕ) (n : ℕ) → LeadsAlong next first xs → ((x : ℕ) → Contains xs x → x < n) → path next first n ≡ xs
path_of next first xs n f below = path_is next first xs n f (distinct_fit n xs (follows_distinct next first xs f) below)

-- ---- other links

pub follows_same : (next new : ℕ → ℕ) (first : ℕ) (xs : List ℕ) → ((x : ℕ) → Contains xs x → new x ≡ next x)
    → LeadsAlong next first xs → LeadsAlong new first xs
follows_same next new first [] same f = f
follows_same next new first (x ∷ xs) same f = (
  f.0,
  f.1,
  subst (λ (q : ℕ). LeadsAlong new q xs) (sym (same x (within_head x xs)))
      (follows_same next new (next x) xs (λ q h. same q (within_tail x xs q h)) f.2),
)

pub last_within : (x : ℕ) (xs ys : List ℕ) → Contains (x ∷ (xs ++ ys)) (last_of x xs)
last_within x [] ys = within_head x ys
last_within x (y ∷ xs) ys = within_tail x (y ∷ (xs ++ ys)) (last_of y xs) (last_within y xs ys)

-- the last of what stands before is the start, or one of them
pub last_cases : (start : ℕ) (xs : List ℕ) → (last_of start xs ≡ start) ⊎ Contains xs (last_of start xs)
last_cases start [] = inl refl
last_cases start (x ∷ xs) = inr (elim (last_cases x xs) [
  | inl is ↦ subst (Contains (x ∷ xs)) (sym is) (within_head x xs)
  | inr there ↦ within_tail x xs (last_of x xs) there
])

module _ (next new : ℕ → ℕ) (at : ℕ) where
  -- one place more, by two links
  pub spliced_in : (start : ℕ) (before after : List ℕ) → LeadsAlong next (next start) (before ++ after) → new (last_of start before) ≡ at
      → new at ≡ next (last_of start before) → at ≢ 0 → ((x : ℕ) → x ≢ at → x ≢ last_of start before → new x ≡ next x)
      → AreDistinct (start ∷ (before ++ after)) → (Contains (start ∷ (before ++ after)) at → ⊥) → LeadsAlong new (new start) (before ++ at ∷ after)
  spliced_in start [] after f to on some others distinct fresh = (
    to,
    some,
    subst (λ (q : ℕ). LeadsAlong new q after) (sym on)
        (follows_same next new (next start) after
        (λ x h. others x (λ e. fresh (within_tail start after at (subst (Contains after) e h))) (λ e. distinct.0 (subst (Contains after) e h))) f),
  )
  spliced_in start (b ∷ before) after f to on some others distinct fresh =
      let keeps : new start ≡ next start =
      others start (λ e. fresh (subst (Contains (start ∷ (b ∷ (before ++ after)))) e (within_head start (b ∷ (before ++ after)))))
      (λ e. distinct.0 (subst (Contains (b ∷ (before ++ after))) (sym e) (last_within b before after))) in (
        keeps ∙ f.0,
        f.1,
        spliced_in b before after f.2 to on some others distinct.1 (λ h. fresh (within_tail start (b ∷ (before ++ after)) at h)),
      )

  -- one place less, by one link
  pub spliced_out : (start : ℕ) (before after : List ℕ) → LeadsAlong next (next start) (before ++ at ∷ after) → new (last_of start before) ≡ next at
      → ((x : ℕ) → x ≢ at → x ≢ last_of start before → new x ≡ next x) → AreDistinct (start ∷ (before ++ at ∷ after))
      → LeadsAlong new (new start) (before ++ after)
  spliced_out start [] after f to others distinct =
      subst (λ (q : ℕ). LeadsAlong new q after) (sym to)
      (follows_same next new (next at) after
      (λ x h. others x (λ e. distinct.1.0 (subst (Contains after) e h))
      (λ e. distinct.0 (within_tail at after start (subst (Contains after) e h)))) f.2)
  spliced_out start (b ∷ before) after f to others distinct =
      let keeps : new start ≡ next start =
      others start (λ e. distinct.0 (subst (Contains (b ∷ (before ++ at ∷ after))) (sym e) (amid_there (b ∷ before) after at)))
      (λ e. distinct.0 (subst (Contains (b ∷ (before ++ at ∷ after))) (sym e) (last_within b before (at ∷ after)))) in (
        keeps ∙ f.0,
        f.1,
        spliced_out b before after f.2 to others distinct.1,
      )
