-- The entries of a map in order, each key once, are the store that the map's look-ups answer.
use Rattle.std.proofs.Common.{◌≡◌, ◌↔◌, ℕ, Bool, true, false, List, [], ◌∷◌, map, Option, Some, Bor, ⊎_elim, refl, sym, ap, subst, ◌∙◌, arith}
use Rattle.std.specs.Prelude.{option_map, Contains}
use Rattle.std.specs.List.{AllByRecursion}
use Rattle.std.specs.List.Sorted.{IsStrictlySortedBy}
use Rattle.std.specs.Ordering.{nat_cmp, is_eq, ordering_reverse}
use Rattle.std.specs.declared.cmp.Ordering.{Ordering}
use Rattle.std.specs.declared.cmp.Ordering.TheVariants.{Less}
use Rattle.std.specs.Cmp.Lexicographic.{slice_cmp, nat_list_cmp_total, same_text}
use Rattle.std.proofs.lemmas.Cmp.{tied_itself}
use Rattle.std.proofs.lemmas.Map.Text.{is_eq-slice_cmp}
use Rattle.std.specs.Map.{keys_of, lookup}
use Rattle.wal_base.proofs.Laws.{within_cases, within_head, within_tail}
use Rattle.text_lines.specs.Holding.{shown}
use Rattle.text_lines.specs.Store.{Held, IsKeyBefore, AscendsByKey}

abbrev Pairs : Type 0
Pairs = List (Bor (List ℕ) × Bor (List ℕ))

-- ---- in order

abbrev cmp : Bor (List ℕ) → Bor (List ℕ) → Ordering
cmp x y = slice_cmp nat_cmp x.now y.now

before_each : (key : Bor (List ℕ)) (es : Pairs) → AllByRecursion (λ y. cmp key y ≡ Less) (keys_of es) → (other : Held)
    → Contains (map shown es) other → IsKeyBefore key.now other.key
before_each key [] all other has = absurd (omega (arith, has.1))
before_each key (e ∷ es) all other has =
    ⊎_elim (λ (is : shown e ≡ other). subst (λ (h : Held). IsKeyBefore key.now h.key) is all.0)
    (λ (later : Contains (map shown es) other). before_each key es all.1 other later) (within_cases (shown e) (map shown es) other has)

pub ascends : (es : Pairs) → IsStrictlySortedBy cmp (keys_of es) → AscendsByKey (map shown es)
unfolding IsStrictlySortedBy AscendsByKey
ascends [] sorted = tt
ascends (e ∷ es) sorted = (λ other has. before_each e.0 es sorted.0 other has, ascends es sorted.1)

-- ---- what is looked up

abbrev found : List ℕ → Pairs → Option (List ℕ)
found key es = option_map (λ (v : Bor (List ℕ)). v.now) (lookup (λ (k : Bor (List ℕ)). is_eq (slice_cmp nat_cmp key k.now)) es)

-- a key is found at itself
found_here : (e : Bor (List ℕ) × Bor (List ℕ)) (es : Pairs) (key : List ℕ) → e.0.now ≡ key → found key (e ∷ es) ≡ Some e.1.now
found_here e es key is =
    let here : is_eq (slice_cmp nat_cmp key e.0.now) ≡ true = ap (λ (k : List ℕ). is_eq (slice_cmp nat_cmp key k)) is
    ∙ ap is_eq (tied_itself nat_list_cmp_total key) in
    rw here refl

-- and passes a key that stands before it
found_later : (e : Bor (List ℕ) × Bor (List ℕ)) (es : Pairs) (key : List ℕ) → IsKeyBefore e.0.now key → found key (e ∷ es) ≡ found key es
found_later e es key before =
    let apart : is_eq (slice_cmp nat_cmp key e.0.now) ≡ false = ap is_eq (nat_list_cmp_total.antisymm key e.0.now ∙ ap ordering_reverse before) in
    rw apart refl

tells : (es : Pairs) → AscendsByKey (map shown es) → (key value : List ℕ) → Contains (map shown es) (record { key = key; value = value }) → found key es ≡ Some value
unfolding AscendsByKey
tells [] up key value has = absurd (omega (arith, has.1))
tells (e ∷ es) up key value has =
    let held : Held = record { key = key; value = value } in
    ⊎_elim (λ (is : shown e ≡ held). found_here e es key (ap (λ (h : Held). h.key) is) ∙ ap (λ (h : Held). Some h.value) is)
    (λ (later : Contains (map shown es) held). found_later e es key (up.0 held later) ∙ tells es up.1 key value later)
    (within_cases (shown e) (map shown es) held has)

told : (es : Pairs) (key value : List ℕ) → found key es ≡ Some value → Contains (map shown es) (record { key = key; value = value })
told [] key value is = absurd cc
told (e ∷ es) key value is = go (is_eq (slice_cmp nat_cmp key e.0.now)) refl (told es key value)
  where
    go : (b : Bool) → is_eq (slice_cmp nat_cmp key e.0.now) ≡ b
        → (found key es ≡ Some value → Contains (map shown es) (record { key = key; value = value }))
        → Contains (map shown (e ∷ es)) (record { key = key; value = value })
    go true here later =
        let same : key ≡ e.0.now = same_text key e.0.now (sym (sym (is_eq-slice_cmp key e.0.now) ∙ here)) in
        let first : Some e.1.now ≡ Some value = sym (found_here e es key (sym same)) ∙ is in
        let value_is : e.1.now ≡ value = cc in
        let held : shown e ≡ record { key = key; value = value } = λ i. record { key = sym same i; value = value_is i } in
        subst (Contains (map shown (e ∷ es))) held (within_head (shown e) (map shown es))
    go false apart later =
        let past : found key es ≡ found key (e ∷ es) = rw apart refl in
        within_tail (shown e) (map shown es) (record { key = key; value = value }) (later (past ∙ is))

pub same : (es : Pairs) → IsStrictlySortedBy cmp (keys_of es) → (key value : List ℕ)
    → Contains (map shown es) (record { key = key; value = value }) ↔ (found key es ≡ Some value)
same es sorted key value = (tells es (ascends es sorted) key value, told es key value)
