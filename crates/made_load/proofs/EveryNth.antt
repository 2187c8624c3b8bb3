-- Every so many-th batch of a load: which numbers they have, and which lines.
use Rattle.std.proofs.Common.{◌≡◌, inl, inr, ℕ, zero, suc, ◌+◌, ◌-◌, ◌*◌, ◌%◌, ◌^◌, ◌<◌, ◌≤◌, Bool, true, false, cond, List, [], ◌∷◌, map, refl, ap, ◌∙◌, arith, ne_eqb}
use Rattle.std.specs.List.{range_with_len}
use Rattle.std.proofs.Math.Nat.{mul-sub, mul-le-mul_left}
use Rattle.std.proofs.lemmas.Bool.{eq-eqb, cases_lt}
use Rattle.std.proofs.lemmas.Nat.{mod_below, column_fits}
use Rattle.session_replies.specs.declared.script.Line.{Line}
use Rattle.made_load.specs.Load.{load_line, load_lines}
use Rattle.session_replies.specs.Legal.{is_of, lines_of_session}

-- ---- their numbers

pub number_fits : (first step count place : ℕ) → first + step * count < 2 ^ 32 + step → place < count → first + step * place < 2 ^ 32
number_fits first step count place fits below = omega (arith, fits, column_fits step place step count below (omega arith))

-- Where one of them deletes a key, the one that set it stands so many places before.
pub stands_back : (first step back place : ℕ) → step * back ≡ 4 → first % 8 < step → (first + step * place) % 8 ≡ 7
    → (back ≤ place) × (first + step * (place - back) ≡ first + step * place - 4)
stands_back first step back place whole eighth last = elim (cases_lt place back) [
  | inl before ↦ absurd (omega (arith, column_fits step place step back before (omega arith), whole, eighth, last))
  | inr le ↦ (le, omega (arith, mul-sub step place back, whole, mul-le-mul_left step le))
]

-- ---- their lines

-- Of each number in a row the same, as of so many from another one on.
pub in_a_row : {X : Type 0} (f : ℕ → X) (i j k n : ℕ) → i + k ≡ j → map (λ m. f (i + 1 * m)) (range_with_len k n) ≡ map f (range_with_len j n)
in_a_row f i j k zero is = refl
in_a_row {X} f i j k (suc n) is =
    let here : i + 1 * k ≡ j = omega arith in
    ap (λ (x : ℕ). f x ∷ map (λ m. f (i + 1 * m)) (range_with_len (k + 1) n)) here
    ∙ ap (λ (l : List X). f j ∷ l) (in_a_row f i (j + 1) (k + 1) n (omega arith))

-- the lines of a session with one before them
one_before : (s : ℕ) (line : Line) (lines : List Line) (b : Bool) → is_of s line ≡ b
    → lines_of_session s (line ∷ lines) ≡ cond b (line ∷ lines_of_session s lines) (lines_of_session s lines)
one_before s line lines b is = ap (λ (c : Bool). cond c (line ∷ lines_of_session s lines) (lines_of_session s lines)) is

-- whether a line is of the session
own : (seed s i : ℕ) → i % 4 ≡ s → is_of s (load_line seed i) ≡ true
unfolding load_line
own seed s i is = eq-eqb (i % 4) s is

away : (seed s i : ℕ) → (i % 4 ≡ s → ⊥) → is_of s (load_line seed i) ≡ false
unfolding load_line
away seed s i apart = ne_eqb (i % 4) s apart

-- Of n batches from i on those of a session are each fourth one, from j on.
pub each_fourth : (seed s a i n j k c : ℕ) → a + 4 * k ≡ j → i ≤ j → j < i + 4 → j % 4 ≡ s → i + n ≤ j + 4 * c → j + 4 * c < i + n + 4
    → lines_of_session s (load_lines seed i n) ≡ map (λ m. load_line seed (a + 4 * m)) (range_with_len k c)
each_fourth seed s a i zero j k zero is low high of enough few = refl
each_fourth seed s a i zero j k (suc c) is low high of enough few = absurd (omega (arith, low, few))
each_fourth seed s a i (suc n) j k zero is low high of enough few =
    one_before s (load_line seed i) (load_lines seed (i + 1) n) false (away seed s i (λ same. omega (arith, low, high, of, same, enough)))
    ∙ each_fourth seed s a (i + 1) n j k zero is (omega (arith, enough)) (omega (arith, high)) of (omega (arith, enough)) (omega (arith, few))
each_fourth seed s a i (suc n) j k (suc c) is low high of enough few = elim (cases_lt i j) [
  | inl before ↦
      one_before s (load_line seed i) (load_lines seed (i + 1) n) false (away seed s i (λ same. omega (arith, before, high, of, same)))
      ∙ each_fourth seed s a (i + 1) n j k (suc c) is (omega (arith, before)) (omega (arith, high)) of (omega (arith, enough)) (omega (arith, few))
  | inr at ↦
      let here : i ≡ a + 4 * k = omega (arith, is, low, at) in
      one_before s (load_line seed i) (load_lines seed (i + 1) n) true (own seed s i (omega (arith, of, low, at)))
      ∙ ap (λ (l : List Line). load_line seed i ∷ l)
      (each_fourth seed s a (i + 1) n (j + 4) (k + 1) c (omega (arith, is)) (omega (arith, low)) (omega (arith, at)) (omega (arith, of))
      (omega (arith, enough)) (omega (arith, few)))
      ∙ ap (λ (x : ℕ). load_line seed x ∷ map (λ m. load_line seed (a + 4 * m)) (range_with_len (k + 1) c)) here
]

-- None is of a fifth session.
pub no_fifth : (seed s i n : ℕ) → 4 ≤ s → lines_of_session s (load_lines seed i n) ≡ []
no_fifth seed s i zero past = refl
no_fifth seed s i (suc n) past =
    one_before s (load_line seed i) (load_lines seed (i + 1) n) false (away seed s i (λ same. omega (arith, same, past, mod_below i 4 (omega arith))))
    ∙ no_fifth seed s (i + 1) n past
