-- A part of a part is a part of the whole.
use Rattle.std.proofs.Common.{◌≡◌, ℕ, ◌+◌, ◌-◌, ◌≤◌, List, length, take, drop, slice_range, arith, ap, sym, ◌∙◌, length-take}
use Rattle.std.proofs.lemmas.List.{take-take, drop-drop, drop-take}

pub part_of_part : (bytes : List ℕ) (start end from to : ℕ) → from ≤ to → to ≤ length (slice_range bytes start end)
    → slice_range bytes (start + from) (start + to) ≡ slice_range (slice_range bytes start end) from to
part_of_part bytes start end from to order within =
    let rest : List ℕ = drop start bytes in
    let inside : to ≤ end - start = omega (arith, length-take (end - start) rest, within) in
    let long : start + to - (start + from) ≡ to - from = omega (arith, order) in
    let room : end - start ≡ from + (end - start - from) = omega (arith, order, inside) in
    let left : drop from (take (end - start) rest) ≡ take (end - start - from) (drop from rest) =
    ap (λ (n : ℕ). drop from (take n rest)) room ∙ drop-take from (end - start - from) rest in
    let whole : take (to - from) (drop from (take (end - start) rest)) ≡ take (to - from) (drop from rest) =
    ap (take (to - from)) left ∙ take-take (to - from) (end - start - from) (drop from rest) (omega (arith, inside)) in
    ap (λ (n : ℕ). take n (drop (start + from) bytes)) long ∙ ap (take (to - from)) (sym (drop-drop from start bytes)) ∙ sym whole

-- A place within a part is no farther than the part is long.
pub within_part : (bytes : List ℕ) (start end to : ℕ) → to ≤ length (slice_range bytes start end) → to ≤ end - start
within_part bytes start end to within = omega (arith, length-take (end - start) (drop start bytes), within)
