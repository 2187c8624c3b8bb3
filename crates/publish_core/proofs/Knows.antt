-- What a seat knows, searched in the order in which it is kept.
use Rattle.std.proofs.Common.{◌≡◌, ◌<◌, ◌≤◌, ◌^◌, ◌/◌, ◌%◌, ◌==◌, ◌&&◌, ◌||◌, ℕ, suc, zero, Bool, true, false, IsTrue, List, [], ◌∷◌, reverse, sym, refl, ap, subst, ◌∙◌, inl, inr, ⊎_elim, arith, eqb-true, eq-eqb, get_or, length}
use Rattle.std.proofs.Math.Nat.{div-eq_of_lt, pow-le-pow_right}
use Rattle.std.proofs.lemmas.List.{reverse-append, reverse-reverse}
use Rattle.std.specs.List.{list_any}
use mathlib.Core.Option.{some, some-ne-none, some-injective}
use lib.ListN.{get_elem?}
use Rattle.publish_core.specs.declared.seat.BatchShape.{BatchShape}
use Rattle.publish_core.specs.declared.seat.Pair.{Pair}
use Rattle.publish_core.specs.declared.state.TheConstants.{SHARDS}
use Rattle.publish_core.specs.Machine.{Among}
use Rattle.publish_core.specs.Parts.{has_part}
use Rattle.publish_core.proofs.Put.{among_append, among_right}

module _ {A : Type 0} where
  -- the order does not matter
  pub among_reverse : (x : A) (xs : List A) → Among x xs → Among x (reverse xs)
  among_reverse x [] h = absurd h
  among_reverse x (y ∷ ys) h = subst (Among x) (sym (reverse-append (y ∷ []) ys))
      (⊎_elim (λ (e : x ≡ y). among_right x (reverse ys) (y ∷ []) (inl e)) (λ (m : Among x ys). among_append x (reverse ys) (y ∷ []) (among_reverse x ys m)) h)

  pub among_forward : (x : A) (xs : List A) → Among x (reverse xs) → Among x xs
  among_forward x xs h = subst (Among x) (reverse-reverse xs) (among_reverse x (reverse xs) h)

-- the test of the search
abbrev pub is_pair : ℕ → ℕ → Pair → Bool
is_pair batch shard x = x.batch == batch && x.shard == shard

abbrev pair : ℕ → ℕ → Pair
pair batch shard = record { batch = batch; shard = shard }

is_pair_true : (batch shard : ℕ) (x : Pair) → is_pair batch shard x ≡ true → pair batch shard ≡ x
is_pair_true batch shard x e = go (x.batch == batch) (x.shard == shard) refl refl e
  where
    go : (a b : Bool) → (x.batch == batch) ≡ a → (x.shard == shard) ≡ b → (a && b) ≡ true → pair batch shard ≡ x
    go true true p q e = λ k. record { batch = sym (eqb-true x.batch batch p) k; shard = sym (eqb-true x.shard shard q) k }
    go true false p q e = cc
    go false b p q e = cc

is_pair_self : (batch shard : ℕ) → is_pair batch shard (pair batch shard) ≡ true
is_pair_self batch shard = ap (λ (a : Bool). a && (shard == shard)) (eq-eqb batch batch refl) ∙ eq-eqb shard shard refl

found : (batch shard : ℕ) (xs : List Pair) → list_any (is_pair batch shard) xs ≡ true → Among (pair batch shard) xs
found batch shard [] e = cc
found batch shard (x ∷ xs) e = go (is_pair batch shard x) refl e (found batch shard xs)
  where
    go : (b : Bool) → is_pair batch shard x ≡ b → (b || list_any (is_pair batch shard) xs) ≡ true
        → (list_any (is_pair batch shard) xs ≡ true → Among (pair batch shard) xs) → Among (pair batch shard) (x ∷ xs)
    go true p e rest = inl (is_pair_true batch shard x p)
    go false p e rest = inr (rest e)

stands : (batch shard : ℕ) (xs : List Pair) → Among (pair batch shard) xs → list_any (is_pair batch shard) xs ≡ true
stands batch shard [] h = absurd h
stands batch shard (x ∷ xs) h = ⊎_elim
    (λ (e : pair batch shard ≡ x). ap (λ (b : Bool). b || list_any (is_pair batch shard) xs) (ap (is_pair batch shard) (sym e) ∙ is_pair_self batch shard))
    (λ (m : Among (pair batch shard) xs). go (is_pair batch shard x) (stands batch shard xs m)) h
  where
    go : (b : Bool) → list_any (is_pair batch shard) xs ≡ true → (b || list_any (is_pair batch shard) xs) ≡ true
    go true e = refl
    go false e = e

-- the search finds a pair exactly where the seat knows it
pub knows_found : (batch shard : ℕ) (xs : List Pair) → list_any (is_pair batch shard) xs ≡ true → Among (pair batch shard) (reverse xs)
knows_found batch shard xs e = among_reverse (pair batch shard) xs (found batch shard xs e)

pub knows_stands : (batch shard : ℕ) (xs : List Pair) → Among (pair batch shard) (reverse xs) → list_any (is_pair batch shard) xs ≡ true
knows_stands batch shard xs h = stands batch shard xs (among_forward (pair batch shard) xs h)

-- a batch has no entries past the eighth shard
pub no_part : (b : BatchShape) (k : ℕ) → b.shards < 256 → SHARDS ≤ k → IsTrue (has_part b k) → ⊥
no_part b k small far t = let p : 2 ^ SHARDS ≤ 2 ^ k = pow-le-pow_right {n = 2} (omega arith) {i = SHARDS} {j = k} far in
    let z : b.shards / 2 ^ k ≡ 0 = div-eq_of_lt (let q : b.shards < 2 ^ k = omega arith in q) in
    let c : (0 % 2 == 1) ≡ true = ap (λ (n : ℕ). n % 2 == 1) (sym z) ∙ t in cc

-- an element that stands at i is what is read at i
pub read_at : {A : Type 0} (l : List A) (i : ℕ) (a d : A) → get_elem? l i ≡ some a → get_or l i d ≡ a
read_at [] i a d e = absurd (some-ne-none a (sym e))
read_at (x ∷ xs) zero a d e = some-injective x a e
read_at (x ∷ xs) (suc i) a d e = read_at xs i a d e

pub stands_at : {A : Type 0} (l : List A) (i : ℕ) (a : A) → i < length l → a ≡ get_or l i a → get_elem? l i ≡ some a
stands_at [] i a lt e = absurd (omega arith)
stands_at (x ∷ xs) zero a lt e = ap some (sym e)
stands_at (x ∷ xs) (suc i) a lt e = stands_at xs i a (omega arith) e
