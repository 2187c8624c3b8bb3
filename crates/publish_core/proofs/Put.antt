-- A function with one value changed, and the ends of a row of batches.
use Rattle.std.proofs.Common.{◌≡◌, ◌≢◌, ◌⊎◌, ℕ, zero, suc, ◌+◌, ◌<◌, ◌≤◌, cond, List, [], ◌∷◌, ◌++◌, length, sym, refl, ap, subst, inl, inr, ⊎_elim, arith, eq-eqb, ne_eqb}
use mathlib.Core.Logic.{dite}
use mathlib.Core.Option.{some, some-ne-none}
use native.Mathlib.Decide.{ℕ_discrete}
use lib.ListN.{get_elem?}
use Rattle.publish_core.specs.Machine.{updated, Among, Distinct, ends}

module _ {A : Type 0} where
  pub put_here : (f : ℕ → A) (i : ℕ) (x : A) → updated f i x i ≡ x
  put_here f i x = ap (λ b. cond b x (f i)) (eq-eqb i i refl)

  pub put_else : (f : ℕ → A) (i : ℕ) (x : A) (j : ℕ) → j ≢ i → updated f i x j ≡ f j
  put_else f i x j n = ap (λ b. cond b x (f j)) (ne_eqb j i n)

  pub at_put : (P : ℕ → A → Type 0) (f : ℕ → A) (i : ℕ) (x : A) (j : ℕ) → P i x → (j ≢ i → P j (f j)) → P j (updated f i x j)
  at_put P f i x j here there = dite (ℕ_discrete j i)
      (λ e. subst (λ (k : ℕ). P k (updated f i x k)) (sym e) (subst (P i) (sym (put_here f i x)) here))
      (λ n. subst (P j) (sym (put_else f i x j n)) (there n))

  -- it says what a changed function gives at j
  pub put_cases : (f : ℕ → A) (i : ℕ) (x : A) (j : ℕ) → ((j ≡ i) × (updated f i x j ≡ x)) ⊎ ((j ≢ i) × (updated f i x j ≡ f j))
  put_cases f i x j = dite (ℕ_discrete j i) (λ e. inl (e, subst (λ (k : ℕ). updated f i x k ≡ x) (sym e) (put_here f i x))) (λ n. inr (n, put_else f i x j n))

  pub among_append : (x : A) (xs ys : List A) → Among x xs → Among x (xs ++ ys)
  among_append x [] ys h = absurd h
  among_append x (y ∷ xs) ys h = ⊎_elim (λ e. inl e) (λ m. inr (among_append x xs ys m)) h

  pub among_right : (x : A) (xs ys : List A) → Among x ys → Among x (xs ++ ys)
  among_right x [] ys h = h
  among_right x (y ∷ xs) ys h = inr (among_right x xs ys h)

  pub among_split : (x : A) (xs ys : List A) → Among x (xs ++ ys) → Among x xs ⊎ Among x ys
  among_split x [] ys h = inr h
  among_split x (y ∷ xs) ys h = ⊎_elim (λ e. inl (inl e)) (λ m. ⊎_elim (λ a. inl (inr a)) (λ b. inr b) (among_split x xs ys m)) h

  pub distinct_append : (xs ys : List A) → Distinct xs → Distinct ys → ((x : A) → Among x xs → Among x ys → ⊥) → Distinct (xs ++ ys)
  distinct_append [] ys a b off = b
  distinct_append (x ∷ xs) ys a b off =
      ((λ h. ⊎_elim (λ m. a.0 m) (λ m. off x (inl refl) m) (among_split x xs ys h)), distinct_append xs ys a.1 b (λ y m q. off y (inr m) q))

  pub at_below : (l : List A) (i : ℕ) (a : A) → get_elem? l i ≡ some a → i < length l
  at_below [] i a e = absurd (some-ne-none a (sym e))
  at_below (x ∷ xs) zero a e = omega arith
  at_below (x ∷ xs) (suc i) a e = let h : i < length xs = at_below xs i a e in omega arith

  pub append_at : (l m : List A) (i : ℕ) → i < length l → get_elem? (l ++ m) i ≡ get_elem? l i
  append_at [] m i h = absurd (omega arith)
  append_at (x ∷ xs) m zero h = refl
  append_at (x ∷ xs) m (suc i) h = append_at xs m i (omega arith)

  pub at_end : (l : List A) (a : A) → get_elem? (l ++ a ∷ []) (length l) ≡ some a
  at_end [] a = refl
  at_end (x ∷ xs) a = at_end xs a

module _ {B : Type 0} (count : B → ℕ) where
  pub ends_append : (v : ℕ) (xs ys : List B) (n : ℕ) → n ≤ length xs → ends count v (xs ++ ys) n ≡ ends count v xs n
  ends_append v xs ys zero h = refl
  ends_append v [] ys (suc n) h = absurd (omega arith)
  ends_append v (x ∷ xs) ys (suc n) h = ends_append (v + count x) xs ys n (omega arith)

  pub ends_snoc : (v : ℕ) (xs : List B) (b : B) → ends count v (xs ++ b ∷ []) (suc (length xs)) ≡ ends count v xs (length xs) + count b
  ends_snoc v [] b = refl
  ends_snoc v (x ∷ xs) b = ends_snoc (v + count x) xs b

  pub ends_base : (v : ℕ) (xs : List B) (n : ℕ) → v ≤ ends count v xs n
  ends_base v xs zero = omega arith
  ends_base v [] (suc n) = omega arith
  ends_base v (x ∷ xs) (suc n) = let h = ends_base (v + count x) xs n in omega arith

  pub ends_mono : (v : ℕ) (xs : List B) (m n : ℕ) → m ≤ n → ends count v xs m ≤ ends count v xs n
  ends_mono v xs zero n h = ends_base v xs n
  ends_mono v xs (suc m) zero h = absurd (omega arith)
  ends_mono v [] (suc m) (suc n) h = omega arith
  ends_mono v (x ∷ xs) (suc m) (suc n) h = ends_mono (v + count x) xs m n (omega arith)

  pub ends_less : (v : ℕ) (xs : List B) → ((i : ℕ) (b : B) → get_elem? xs i ≡ some b → 0 < count b) → (m n : ℕ) → m < n → n ≤ length xs
      → ends count v xs m < ends count v xs n
  ends_less v xs pos m zero h l = absurd (omega arith)
  ends_less v [] pos m (suc n) h l = absurd (omega arith)
  ends_less v (x ∷ xs) pos zero (suc n) h l = let p : 0 < count x = pos 0 x refl in let b = ends_base (v + count x) xs n in omega arith
  ends_less v (x ∷ xs) pos (suc m) (suc n) h l = ends_less (v + count x) xs (λ i b e. pos (suc i) b e) m n (omega arith) (omega arith)
