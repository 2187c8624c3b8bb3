-- Eight bytes are added to the register as one number, and each byte of the sum goes over its zeros alone.
use Rattle.std.proofs.Common.{◌≡◌, ℕ, suc, ◌+◌, ◌*◌, ◌/◌, ◌%◌, ◌^◌, ◌<◌, List, [], ◌∷◌, ◌++◌, length, get_or, refl, sym, ap, ◌∙◌, arith}
use Rattle.std.specs.List.{flat_map}
use Rattle.std.specs.Int.{w64, to_le_bytes, from_le_bytes}
use Rattle.std.specs.Int.Bits.{bit_xor, xor_zero_r, xor_comm, xor_assoc, xor_shifted}
use Rattle.std.proofs.lemmas.Nat.{le_bytes_8}
use Rattle.std.proofs.lemmas.List.Concat.{flat_map-cons, flat_map-append}
use Rattle.crc_chunk.specs.Crc.{bits_of, after_bits}
use Rattle.crc_chunk.specs.Zeros.{over_zeros}
use Rattle.crc_chunk.proofs.Steps.{zeros-xor, zeros_high, zeros_on, byte_is, low_byte, after_bits-append}

-- bytes as one number, the first of them lowest
number : List ℕ → ℕ
number [] = 0
number (b ∷ bytes) = b + 256 * number bytes

-- What stands above a byte comes down by eight places.
added_high : (x b q : ℕ) → b < 256 → bit_xor (over_zeros 8 (bit_xor x b)) q ≡ over_zeros 8 (bit_xor x (b + 256 * q))
added_high x b q h =
    let apart : b + 256 * q ≡ bit_xor b (q * 2 ^ 8) = let up = xor_shifted q 8 b h in let turn = xor_comm (q * 2 ^ 8) b in omega (arith, up, turn) in
    ap (bit_xor (over_zeros 8 (bit_xor x b))) (sym (zeros_high 8 q))
    ∙ sym (zeros-xor 8 (bit_xor x b) (q * 2 ^ 8))
    ∙ ap (over_zeros 8) (xor_assoc x b (q * 2 ^ 8) ∙ ap (bit_xor x) (sym apart))

-- Bytes one after another, or at once.
after_number : (bytes : List ℕ) (x : ℕ) → ((i : ℕ) → get_or bytes i 0 < 256)
    → after_bits x (flat_map bits_of bytes) ≡ over_zeros (8 * length bytes) (bit_xor x (number bytes))
unfolding after_bits over_zeros number
after_number [] x small = sym (xor_zero_r x)
after_number (b ∷ bytes) x small =
    let n : ℕ = length bytes in
    let more : 8 * length (b ∷ bytes) ≡ 8 + 8 * n = omega arith in
    ap (after_bits x) (flat_map-cons bits_of b bytes)
    ∙ after_bits-append (bits_of b) x (flat_map bits_of bytes)
    ∙ after_number bytes (after_bits x (bits_of b)) (λ i. small (suc i))
    ∙ ap (λ (t : ℕ). over_zeros (8 * n) (bit_xor t (number bytes))) (byte_is x b (small 0))
    ∙ ap (over_zeros (8 * n)) (added_high x b (number bytes) (small 0))
    ∙ sym (zeros_on 8 (8 * n) (bit_xor x (b + 256 * number bytes)))
    ∙ ap (λ (k : ℕ). over_zeros k (bit_xor x (b + 256 * number bytes))) (sym more)

spelled : (a b c d e f g h : ℕ) → a + 256 * (b + 256 * (c + 256 * (d + 256 * (e + 256 * (f + 256 * (g + 256 * (h + 256 * 0))))))) ≡
    from_le_bytes w64 (a ∷ b ∷ c ∷ d ∷ e ∷ f ∷ g ∷ h ∷ [])
spelled a b c d e f g h = omega arith

word_is : (bytes : List ℕ) → length bytes ≡ 8 → ((i : ℕ) → get_or bytes i 0 < 256) → number bytes ≡ from_le_bytes w64 bytes
unfolding number
word_is bytes l small =
    let same : to_le_bytes w64 (from_le_bytes w64 bytes) ≡ bytes = le_bytes_8 bytes (from_le_bytes w64 bytes) l small refl in
    ap number (sym same) ∙ spelled _ _ _ _ _ _ _ _ ∙ ap (from_le_bytes w64) same

-- Eight bytes are one word, added to the register.
pub after_word : (bytes : List ℕ) (x : ℕ) → length bytes ≡ 8 → ((i : ℕ) → get_or bytes i 0 < 256)
    → after_bits x (flat_map bits_of bytes) ≡ over_zeros 64 (bit_xor (from_le_bytes w64 bytes) x)
after_word bytes x l small =
    after_number bytes x small
    ∙ ap (λ (n : ℕ). over_zeros (8 * n) (bit_xor x (number bytes))) l
    ∙ ap (λ (n : ℕ). over_zeros 64 (bit_xor x n)) (word_is bytes l small)
    ∙ ap (over_zeros 64) (xor_comm x (from_le_bytes w64 bytes))

-- Of sixteen bytes the register meets the first eight alone.
pub after_words : (first second : List ℕ) (x : ℕ) → length first ≡ 8 → length second ≡ 8
    → ((i : ℕ) → get_or first i 0 < 256) → ((i : ℕ) → get_or second i 0 < 256)
    → after_bits x (flat_map bits_of (first ++ second)) ≡ bit_xor (over_zeros 64 (from_le_bytes w64 second))
    (over_zeros 128 (bit_xor (from_le_bytes w64 first) x))
after_words first second x l m small small_too =
    let word : ℕ = from_le_bytes w64 second in
    let one : ℕ = bit_xor (from_le_bytes w64 first) x in
    ap (after_bits x) (flat_map-append bits_of first second)
    ∙ after_bits-append (flat_map bits_of first) x (flat_map bits_of second)
    ∙ ap (λ (t : ℕ). after_bits t (flat_map bits_of second)) (after_word first x l small)
    ∙ after_word second (over_zeros 64 one) m small_too
    ∙ zeros-xor 64 word (over_zeros 64 one)
    ∙ ap (bit_xor (over_zeros 64 word)) (sym (zeros_on 64 64 one))

-- One more byte, below those that are summed.
next : (k n byte above high low : ℕ) → n ≡ k + 1 → byte < 256 → high ≡ over_zeros (8 * k) above → low ≡ over_zeros (8 * k + 8) byte
    → bit_xor high low ≡ over_zeros (8 * n) (byte + 256 * above)
next k n byte above high low is small upper lower =
    let whole : ℕ = byte + 256 * above in
    let moved : above ≡ whole / 256 = omega arith in
    let kept : byte ≡ whole % 256 = omega arith in
    let fewer : 8 * k + 8 ≡ 8 + 8 * k = omega arith in
    let all : 8 + 8 * k ≡ 8 * n = omega arith in
    ap (λ (t : ℕ). bit_xor t low) (upper ∙ ap (over_zeros (8 * k)) moved)
    ∙ ap (bit_xor (over_zeros (8 * k) (whole / 256))) (lower ∙ ap (over_zeros (8 * k + 8)) kept ∙ ap (λ (t : ℕ). over_zeros t (whole % 256)) fewer)
    ∙ sym (low_byte (8 * k) whole)
    ∙ ap (λ (t : ℕ). over_zeros t whole) all

-- Eight bytes over zeros are the sum of the bytes, each over its own zeros.
pub folds : (k : ℕ) (bytes : List ℕ) (a b c d e f g h : ℕ) → ((i : ℕ) → get_or bytes i 0 < 256)
    → a ≡ over_zeros (8 * k + 8) (get_or bytes 7 0)
    → b ≡ over_zeros (8 * (k + 1) + 8) (get_or bytes 6 0)
    → c ≡ over_zeros (8 * (k + 2) + 8) (get_or bytes 5 0)
    → d ≡ over_zeros (8 * (k + 3) + 8) (get_or bytes 4 0)
    → e ≡ over_zeros (8 * (k + 4) + 8) (get_or bytes 3 0)
    → f ≡ over_zeros (8 * (k + 5) + 8) (get_or bytes 2 0)
    → g ≡ over_zeros (8 * (k + 6) + 8) (get_or bytes 1 0)
    → h ≡ over_zeros (8 * (k + 7) + 8) (get_or bytes 0 0)
    → bit_xor (bit_xor (bit_xor (bit_xor (bit_xor (bit_xor (bit_xor a b) c) d) e) f) g) h ≡ over_zeros (8 * k + 64) (from_le_bytes w64 bytes)
unfolding number
folds k bytes a b c d e f g h small ea eb ec ed ee ef eg eh =
    let top : get_or bytes 7 0 ≡ get_or bytes 7 0 + 256 * 0 = omega arith in
    let one : 8 * k + 8 ≡ 8 * (k + 1) = omega arith in
    let at_a : a ≡ over_zeros (8 * (k + 1)) (get_or bytes 7 0 + 256 * 0) = ea ∙ ap (λ (n : ℕ). over_zeros n (get_or bytes 7 0)) one
    ∙ ap (over_zeros (8 * (k + 1))) top in
    let at_b = next (k + 1) (k + 2) _ _ a b (omega arith) (small 6) at_a eb in
    let at_c = next (k + 2) (k + 3) _ _ _ c (omega arith) (small 5) at_b ec in
    let at_d = next (k + 3) (k + 4) _ _ _ d (omega arith) (small 4) at_c ed in
    let at_e = next (k + 4) (k + 5) _ _ _ e (omega arith) (small 3) at_d ee in
    let at_f = next (k + 5) (k + 6) _ _ _ f (omega arith) (small 2) at_e ef in
    let at_g = next (k + 6) (k + 7) _ _ _ g (omega arith) (small 1) at_f eg in
    let at_h = next (k + 7) (k + 8) _ _ _ h (omega arith) (small 0) at_g eh in
    at_h
    ∙ ap (over_zeros (8 * (k + 8))) (spelled (get_or bytes 0 0) (get_or bytes 1 0) (get_or bytes 2 0) (get_or bytes 3 0) (get_or bytes 4 0)
    (get_or bytes 5 0) (get_or bytes 6 0) (get_or bytes 7 0))
    ∙ ap (λ (n : ℕ). over_zeros n (from_le_bytes w64 bytes)) (omega arith)
