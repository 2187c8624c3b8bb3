-- What is taken from a place on stands in front of what is left.
use Rattle.std.proofs.Common.{◌≡◌, ℕ, ◌+◌, ◌-◌, List, ◌++◌, length, take, drop, sym, ap, ◌∙◌}
use Rattle.std.proofs.lemmas.List.{take-append-drop, drop-drop, take_rest}

pub taken_in_front : (bytes taken : List ℕ) (at n : ℕ) → take n taken ≡ take n (take (length bytes - at) (drop at bytes))
    → drop at bytes ≡ take n taken ++ drop (at + n) bytes
taken_in_front bytes taken at n e =
    sym (take-append-drop n (drop at bytes))
    ∙ ap (λ (front : List ℕ). front ++ drop n (drop at bytes)) (sym (e ∙ ap (take n) (take_rest bytes at)))
    ∙ ap (λ (rest : List ℕ). take n taken ++ rest) (drop-drop n at bytes)
