use Rattle.std.proofs.Common.{ℕ, List, ◌∷◌, ap, ◌∙◌, append-nil}
use Rattle.made_load.specs.Load.{last_digits, load_key}
use Rattle.made_load.proofs.load.key_bytes.Goals as goal

pub returns : goal.returns
unfolding load_key
returns c =
    ap (λ (text : List ℕ). 107 ∷ text)
    (append-nil c.put_digits.new.out ∙ c.put_digits.ensures ∙ ap (λ (n : ℕ). last_digits 10 4 n) c.from.ensures)
