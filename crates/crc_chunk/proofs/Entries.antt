-- The entries, computed row by row, each row from the one before.
use Rattle.std.proofs.Common.{◌≡◌, ℕ, zero, suc, ◌+◌, ◌-◌, ◌*◌, ◌<◌, List, [], ◌++◌, refl, map, ◌∙◌, ap, arith, get_or, length, sym}
use Rattle.std.specs.List.{range_with_len}
use Rattle.std.proofs.lemmas.List.{get_or-map, length-map, get_or_append_left, get_or-append_right}
use Rattle.std.proofs.lemmas.List.FromFn.{length-range_with_len, get_or-map-range_with_len}
use Rattle.crc_chunk.specs.declared.table.TheConstants.{ROWS}
use Rattle.crc_chunk.specs.Zeros.{over_zeros}
use Rattle.crc_chunk.proofs.Steps.{zeros_on}

-- rows one after another, each of them eight zero bits after the one before
rows_from : ℕ → List ℕ → List ℕ
rows_from zero row = []
rows_from (suc k) row = row ++ rows_from k (map (over_zeros 8) row)

ROWS_are : ROWS ≡ rows_from 16 (map (over_zeros 8) (range_with_len 0 256))
unfolding over_zeros rows_from
ROWS_are = refl

rows_at : (k n : ℕ) (row : List ℕ) (w i j : ℕ) → k < n → length row ≡ w → i < w → j ≡ w * k + i
    → get_or (rows_from n row) j 0 ≡ over_zeros (8 * k) (get_or row i 0)
unfolding rows_from over_zeros
rows_at k zero row w i j hk hw hi is = absurd (omega arith)
rows_at zero (suc n) row w i j hk hw hi is =
    get_or_append_left row (rows_from n (map (over_zeros 8) row)) 0 j (omega arith) ∙ ap (λ (t : ℕ). get_or row t 0) (omega arith)
rows_at (suc k) (suc n) row w i j hk hw hi is =
    let more : 8 * suc k ≡ 8 + 8 * k = omega arith in
    let further : w * suc k ≡ w + w * k = omega arith in
    get_or-append_right row (rows_from n (map (over_zeros 8) row)) w j 0 hw (omega arith)
    ∙ rows_at k n (map (over_zeros 8) row) w i (j - w) (omega arith) (rw length-map hw) hi (omega arith)
    ∙ ap (over_zeros (8 * k)) (get_or-map (over_zeros 8) row i 0 0 (omega arith))
    ∙ sym (zeros_on 8 (8 * k) (get_or row i 0))
    ∙ ap (λ (t : ℕ). over_zeros t (get_or row i 0)) (sym more)

pub entry_at : (k i : ℕ) → k < 16 → i < 256 → get_or ROWS (256 * k + i) 0 ≡ over_zeros (8 * k + 8) i
entry_at k i hk hi =
    ap (λ (t : List ℕ). get_or t (256 * k + i) 0) ROWS_are
    ∙ rows_at k 16 (map (over_zeros 8) (range_with_len 0 256)) 256 i (256 * k + i) hk (rw length-map (length-range_with_len 0 256)) hi refl
    ∙ ap (over_zeros (8 * k)) (get_or-map-range_with_len (over_zeros 8) 0 256 i i 0 hi (omega arith))
    ∙ sym (zeros_on 8 (8 * k) i) ∙ ap (λ (n : ℕ). over_zeros n i) (omega arith)
