-- A seat whose own batches are as many as there are has them all.
use Rattle.std.proofs.Common.{◌≡◌, ◌≢◌, ◌⊎◌, ℕ, zero, suc, ◌<◌, ◌≤◌, Bool, List, [], ◌∷◌, length, sym, refl, ap, subst, inl, inr, ⊎_elim, arith, le_trans}
use mathlib.Core.Logic.{dite}
use native.Mathlib.Decide.{ℕ_discrete}
use Rattle.publish_core.specs.Machine.{Among, Distinct, CoreState}
use Rattle.publish_core.specs.Sound.{Sound}

-- x is among xs or not
looks : (x : ℕ) (xs : List ℕ) → Among x xs ⊎ (Among x xs → ⊥)
looks x [] = inr (λ a. a)
looks x (y ∷ ys) = dite (ℕ_discrete x y) (λ e. inl (inl e)) (λ n. ⊎_elim (λ a. inl (inr a)) (λ b. inr (λ h. ⊎_elim (λ e. n e) (λ a. b a) h)) (looks x ys))

-- what is left of xs without n, where n is among them: all of it below n
record Rest (n : ℕ) (xs : List ℕ) : Type 0 where
  pub ys : List ℕ
  pub one_less : length xs ≡ suc (length ys)
  pub distinct : Distinct ys
  pub back : (x : ℕ) → Among x ys → Among x xs
  pub away : Among n ys → ⊥

take_out : (n : ℕ) (xs : List ℕ) → Distinct xs → Among n xs → Rest n xs
take_out n [] d a = absurd a
take_out n (y ∷ xs) d a = ⊎_elim
    (λ e. record { ys = xs; one_less = refl; distinct = d.1; back = λ x m. inr m; away = λ m. d.0 (subst (λ (z : ℕ). Among z xs) e m) })
    (λ m. let r = take_out n xs d.1 m in record {
      ys = y ∷ r.ys;
      one_less = ap suc r.one_less;
      distinct = ((λ q. d.0 (r.back y q)), r.distinct);
      back = λ x q. ⊎_elim (λ e. inl e) (λ h. inr (r.back x h)) q;
      away = λ q. ⊎_elim (λ e. d.0 (subst (λ (z : ℕ). Among z xs) e m)) (λ h. r.away h) q;
    }) a

-- distinct numbers below n are at most n
few : (n : ℕ) (xs : List ℕ) → Distinct xs → ((x : ℕ) → Among x xs → x < n) → length xs ≤ n
few zero [] d b = omega arith
few zero (x ∷ xs) d b = let h : x < 0 = b x (inl refl) in absurd (omega arith)
few (suc n) xs d b = ⊎_elim
    (λ a. let r = take_out n xs d a in let l = few n r.ys r.distinct
    (λ x m. let h : x < suc n = b x (r.back x m) in let ne : x ≢ n = λ e. r.away (subst (λ (z : ℕ). Among z r.ys) e m) in omega arith) in
    let e = r.one_less in omega arith)
    (λ no. let l = few n xs d (λ x m. let h : x < suc n = b x m in let ne : x ≢ n = λ e. no (subst (λ (z : ℕ). Among z xs) e m) in omega arith) in omega arith)
    (looks n xs)

-- n distinct numbers below n are all of them
pub all_there : (n : ℕ) (xs : List ℕ) → Distinct xs → ((x : ℕ) → Among x xs → x < n) → n ≤ length xs → (i : ℕ) → i < n → Among i xs
all_there zero xs d b l i h = absurd (omega arith)
all_there (suc n) xs d b l i h = ⊎_elim
    (λ a. let r = take_out n xs d a in let e = r.one_less in dite (ℕ_discrete i n) (λ q. subst (λ (z : ℕ). Among z xs) (sym q) a)
    (λ ne. r.back i (all_there n r.ys r.distinct
    (λ x m. let g : x < suc n = b x (r.back x m) in let nx : x ≢ n = λ q. r.away (subst (λ (z : ℕ). Among z r.ys) q m) in omega arith) (omega arith) i
    (omega arith))))
    (λ no. let q = few n xs d (λ x m. let g : x < suc n = b x m in let nx : x ≢ n = λ e. no (subst (λ (z : ℕ). Among z xs) e m) in omega arith) in
    absurd (omega arith)) (looks n xs)

module _ {B : Type 0} (count : B → ℕ) (touches : B → ℕ → Bool) where
  pub has_all : (s : CoreState B) → Sound count touches s → (j : ℕ) → length s.batches ≤ length (s.seats j).own → (i : ℕ) → i < length s.batches
      → Among i (s.seats j).own
  has_all s sound j l = let ok = sound.each_seat j in all_there (length s.batches) (s.seats j).own ok.distinct (λ x a. le_trans (ok.owns x a).0 ok.seen) l
