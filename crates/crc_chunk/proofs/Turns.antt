-- A turn of the loop takes a front in, and leaves the rest.
use Rattle.std.proofs.Common.{◌≡◌, ℕ, ◌+◌, ◌<◌, ◌≤◌, List, [], ◌∷◌, ◌++◌, length, take, drop, get_or, add-one, append_assoc, sym, ap, ◌∙◌}
use Rattle.std.specs.List.{flat_map}
use Rattle.std.proofs.Math.Seq.{drop-cons}
use Rattle.std.proofs.lemmas.List.{take-append-drop, drop_all}
use Rattle.std.proofs.lemmas.List.Concat.{flat_map-append}
use Rattle.crc_chunk.specs.Crc.{bits_of, after_bits}
use Rattle.crc_chunk.proofs.Steps.{after_bits-append}

-- The front is taken in, and what is left gives what all gives.
pub goes_on : (rest front back : List ℕ) (x y total : ℕ) → rest ≡ front ++ back → y ≡ after_bits x (flat_map bits_of front)
    → after_bits x (flat_map bits_of rest) ≡ total → after_bits y (flat_map bits_of back) ≡ total
goes_on rest front back x y total cut turned so_far =
    ap (λ (t : ℕ). after_bits t (flat_map bits_of back)) turned
    ∙ sym (after_bits-append (flat_map bits_of front) x (flat_map bits_of back))
    ∙ ap (after_bits x) (sym (ap (flat_map bits_of) cut ∙ flat_map-append bits_of front back))
    ∙ so_far

pub cut_at : (n : ℕ) (rest front back : List ℕ) → front ≡ take n rest → back ≡ drop n rest → rest ≡ front ++ back
cut_at n rest front back f b = sym (ap (λ (t : List ℕ). t ++ back) f ∙ ap (λ (t : List ℕ). take n rest ++ t) b ∙ take-append-drop n rest)

pub cut_twice : (rest first behind second back : List ℕ) → rest ≡ first ++ behind → behind ≡ second ++ back → rest ≡ (first ++ second) ++ back
cut_twice rest first behind second back e f = e ∙ ap (λ (t : List ℕ). first ++ t) f ∙ sym (append_assoc first second back)

-- One byte of a list, and the list's end.
pub cut_one : (rest : List ℕ) (i : ℕ) → i < length rest → drop i rest ≡ (get_or rest i 0 ∷ []) ++ drop (i + 1) rest
cut_one rest i within = rw add-one (drop-cons rest i 0 within)

pub is_done : (rest : List ℕ) (i x total : ℕ) → length rest ≤ i → after_bits x (flat_map bits_of (drop i rest)) ≡ total → x ≡ total
unfolding after_bits
is_done rest i x total past so_far = sym (ap (λ (t : List ℕ). after_bits x (flat_map bits_of t)) (drop_all i rest past)) ∙ so_far
