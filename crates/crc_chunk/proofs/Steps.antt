-- Many steps at once: a sum's steps are the sum of the steps, so each byte of a register goes over zeros alone.
use Rattle.std.proofs.Common.{◌≡◌, ℕ, zero, suc, ◌+◌, ◌*◌, ◌/◌, ◌%◌, ◌^◌, ◌<◌, List, [], ◌∷◌, ◌++◌, refl, ◌∙◌, ap, arith, sym, cond, eqb}
use Rattle.std.specs.Int.Bits.{bit_xor, xor_zero_r, xor_comm, xor_assoc, xor_shr, xor_mod, xor_shifted}
use Rattle.std.proofs.lemmas.Nat.{pow_pos, shr_split, mod_below, shr-shr}
use Rattle.std.proofs.Math.Nat.{pow-suc, div-one}
use Rattle.crc_chunk.specs.Crc.{polynomial, bits_of, after_bit, after_bits}
use Rattle.crc_chunk.specs.Zeros.{over_zeros}

-- one step over a zero
abbrev pub step : ℕ → ℕ
step x = after_bit x 0

-- the polynomial for 1, and nothing for 0
abbrev added : ℕ → ℕ
added d = d * polynomial

chosen : (q d b : ℕ) → d < 2 → b < 2 → cond (eqb d b) q (bit_xor q polynomial) ≡ bit_xor q (added (bit_xor d b))
chosen q zero zero hd hb = sym (xor_zero_r q)
chosen q zero (suc zero) hd hb = refl
chosen q (suc zero) zero hd hb = refl
chosen q (suc zero) (suc zero) hd hb = sym (xor_zero_r q)
chosen q zero (suc (suc b)) hd hb = absurd (omega arith)
chosen q (suc zero) (suc (suc b)) hd hb = absurd (omega arith)
chosen q (suc (suc d)) b hd hb = absurd (omega arith)

added-xor : (d e : ℕ) → d < 2 → e < 2 → added (bit_xor d e) ≡ bit_xor (added d) (added e)
added-xor zero e hd he = refl
added-xor (suc zero) zero hd he = refl
added-xor (suc zero) (suc zero) hd he = refl
added-xor (suc zero) (suc (suc e)) hd he = absurd (omega arith)
added-xor (suc (suc d)) e hd he = absurd (omega arith)

after_is : (x b : ℕ) → b < 2 → after_bit x b ≡ bit_xor (x / 2) (added (bit_xor (x % 2) b))
after_is x b h = chosen (x / 2) (x % 2) b (mod_below x 2 (omega arith)) h

step_is : (x : ℕ) → step x ≡ bit_xor (x / 2) (added (x % 2))
step_is x = after_is x 0 (omega arith) ∙ ap (λ (d : ℕ). bit_xor (x / 2) (added d)) (xor_zero_r (x % 2))

swap_inner : (a b c d : ℕ) → bit_xor (bit_xor a b) (bit_xor c d) ≡ bit_xor (bit_xor a c) (bit_xor b d)
swap_inner a b c d =
    xor_assoc a b (bit_xor c d)
    ∙ ap (bit_xor a) (sym (xor_assoc b c d) ∙ ap (λ (t : ℕ). bit_xor t d) (xor_comm b c) ∙ xor_assoc c b d)
    ∙ sym (xor_assoc a c (bit_xor b d))

-- a step of a sum is the sum of the steps
step-xor : (x y : ℕ) → step (bit_xor x y) ≡ bit_xor (step x) (step y)
step-xor x y =
    step_is (bit_xor x y)
    ∙ ap (λ (q : ℕ). bit_xor q (added (bit_xor x y % 2))) (xor_shr x y 1)
    ∙ ap (λ (d : ℕ). bit_xor (bit_xor (x / 2) (y / 2)) (added d)) (xor_mod x y 1)
    ∙ ap (bit_xor (bit_xor (x / 2) (y / 2))) (added-xor (x % 2) (y % 2) (mod_below x 2 (omega arith)) (mod_below y 2 (omega arith)))
    ∙ swap_inner (x / 2) (y / 2) (added (x % 2)) (added (y % 2))
    ∙ ap (λ (t : ℕ). bit_xor t (bit_xor (y / 2) (added (y % 2)))) (sym (step_is x))
    ∙ ap (bit_xor (step x)) (sym (step_is y))

pub zeros-xor : (n x y : ℕ) → over_zeros n (bit_xor x y) ≡ bit_xor (over_zeros n x) (over_zeros n y)
unfolding over_zeros
zeros-xor zero x y = refl
zeros-xor (suc n) x y = ap (over_zeros n) (step-xor x y) ∙ zeros-xor n (step x) (step y)

-- zeros, and then more
pub zeros_on : (m n x : ℕ) → over_zeros (m + n) x ≡ over_zeros n (over_zeros m x)
unfolding over_zeros
zeros_on zero n x = let none : zero + n ≡ n = omega arith in ap (λ (k : ℕ). over_zeros k x) none
zeros_on (suc m) n x =
    let one : suc m + n ≡ suc (m + n) = omega arith in
    ap (λ (k : ℕ). over_zeros k x) one ∙ zeros_on m n (step x)

step_even : (m : ℕ) → step (2 * m) ≡ m
step_even m =
    let q : 2 * m / 2 ≡ m = omega arith in
    let d : 2 * m % 2 ≡ 0 = omega arith in
    step_is (2 * m) ∙ ap (λ (t : ℕ). bit_xor t (added (2 * m % 2))) q ∙ ap (λ (t : ℕ). bit_xor m (added t)) d ∙ xor_zero_r m

-- what stands above the low n bits only moves
pub zeros_high : (n q : ℕ) → over_zeros n (q * 2 ^ n) ≡ q
unfolding over_zeros
zeros_high zero q = omega arith
zeros_high (suc n) q =
    let twice : q * 2 ^ suc n ≡ 2 * (q * 2 ^ n) = rw (pow-suc 2 n) (omega arith) in
    ap (λ (t : ℕ). over_zeros n (step t)) twice ∙ ap (over_zeros n) (step_even (q * 2 ^ n)) ∙ zeros_high n q

pub zeros_split : (n x : ℕ) → over_zeros n x ≡ bit_xor (over_zeros n (x % 2 ^ n)) (x / 2 ^ n)
zeros_split n x =
    let parts : x ≡ bit_xor (x / 2 ^ n * 2 ^ n) (x % 2 ^ n) = sym (xor_shifted (x / 2 ^ n) n (x % 2 ^ n) (mod_below x (2 ^ n) (pow_pos n)) ∙ shr_split x n) in
    ap (over_zeros n) parts ∙ zeros-xor n (x / 2 ^ n * 2 ^ n) (x % 2 ^ n)
    ∙ ap (λ (t : ℕ). bit_xor t (over_zeros n (x % 2 ^ n))) (zeros_high n (x / 2 ^ n))
    ∙ xor_comm (x / 2 ^ n) (over_zeros n (x % 2 ^ n))

-- the n lowest bits, lowest first
low_bits : ℕ → ℕ → List ℕ
low_bits zero v = []
low_bits (suc n) v = v % 2 ∷ low_bits n (v / 2)

-- Bits one after another, or at once.
after_low_bits : (n x v : ℕ) → v < 2 ^ n → after_bits x (low_bits n v) ≡ over_zeros n (bit_xor x v)
unfolding over_zeros after_bits low_bits
after_low_bits zero x v h =
    let nothing : v ≡ 0 = omega arith in
    sym (ap (bit_xor x) nothing ∙ xor_zero_r x)
after_low_bits (suc n) x v h =
    let below : v / 2 < 2 ^ n = omega arith in
    let same : bit_xor (after_bit x (v % 2)) (v / 2) ≡ step (bit_xor x v) =
    ap (λ (t : ℕ). bit_xor t (v / 2)) (after_is x (v % 2) (mod_below v 2 (omega arith)))
    ∙ xor_assoc (x / 2) (added (bit_xor (x % 2) (v % 2))) (v / 2)
    ∙ ap (bit_xor (x / 2)) (xor_comm (added (bit_xor (x % 2) (v % 2))) (v / 2))
    ∙ sym (xor_assoc (x / 2) (v / 2) (added (bit_xor (x % 2) (v % 2))))
    ∙ ap (λ (t : ℕ). bit_xor t (added (bit_xor (x % 2) (v % 2)))) (sym (xor_shr x v 1))
    ∙ ap (λ (d : ℕ). bit_xor (bit_xor x v / 2) (added d)) (sym (xor_mod x v 1))
    ∙ sym (step_is (bit_xor x v)) in
    after_low_bits n (after_bit x (v % 2)) (v / 2) below ∙ ap (over_zeros n) same

bits_are : (v : ℕ) → bits_of v ≡ low_bits 8 v
unfolding low_bits
bits_are v = rw (div-one v, shr-shr v 1 1, shr-shr v 2 1, shr-shr v 3 1, shr-shr v 4 1, shr-shr v 5 1, shr-shr v 6 1) refl

-- A byte: the low byte of the register and the byte decide what is added, and the rest moves.
pub after_byte : (x byte : ℕ) → byte < 256 → after_bits x (bits_of byte) ≡ bit_xor (over_zeros 8 (bit_xor x byte % 256)) (x / 256)
after_byte x byte h =
    let above : bit_xor x byte / 256 ≡ x / 256 =
    xor_shr x byte 8 ∙ ap (bit_xor (x / 256)) (omega arith) ∙ xor_zero_r (x / 256) in
    ap (after_bits x) (bits_are byte) ∙ after_low_bits 8 x byte h ∙ zeros_split 8 (bit_xor x byte)
    ∙ ap (bit_xor (over_zeros 8 (bit_xor x byte % 256))) above

-- A byte is eight steps of the register with the byte added.
pub byte_is : (x byte : ℕ) → byte < 256 → after_bits x (bits_of byte) ≡ over_zeros 8 (bit_xor x byte)
byte_is x byte h = ap (after_bits x) (bits_are byte) ∙ after_low_bits 8 x byte h

-- The lowest byte goes over all zeros, and the others over eight fewer.
pub low_byte : (m w : ℕ) → over_zeros (8 + m) w ≡ bit_xor (over_zeros m (w / 256)) (over_zeros (8 + m) (w % 256))
low_byte m w =
    zeros_on 8 m w ∙ ap (over_zeros m) (zeros_split 8 w) ∙ zeros-xor m (over_zeros 8 (w % 256)) (w / 256)
    ∙ ap (λ (t : ℕ). bit_xor t (over_zeros m (w / 256))) (sym (zeros_on 8 m (w % 256)))
    ∙ xor_comm (over_zeros (8 + m) (w % 256)) (over_zeros m (w / 256))

-- bits, and then more
pub after_bits-append : (a : List ℕ) (x : ℕ) (b : List ℕ) → after_bits x (a ++ b) ≡ after_bits (after_bits x a) b
unfolding after_bits
after_bits-append [] x b = refl
after_bits-append (bit ∷ a) x b = after_bits-append a (after_bit x bit) b
