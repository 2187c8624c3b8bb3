use Rattle.std.proofs.Common.{◌≡◌, ◌-◌, List, ℕ, take, drop, length, sym, ap, ◌∙◌}
use Rattle.std.proofs.lemmas.List.{take_rest}
use Rattle.line_words.proofs.Cuts.{cut_at, cut_nowhere}
use Rattle.line_words.proofs.pieces.Pieces.next.Goals as goal

-- what is left of the bytes is what is left of the text
rest_is : (text bytes : List ℕ) (from : ℕ) → bytes ≡ text → take (length bytes - from) (drop from bytes) ≡ drop from text
rest_is text bytes from same = take_rest bytes from ∙ ap (drop from) same

pub returns-in-Some-clause-some : goal.returns-in-Some-clause-some
returns-in-Some-clause-some c =
    sym c.self.view_is
    ∙ cut_at c.self.inside.cut c.self.inside.text.now _ c.self.inside.from c.self.inside.is_done
    (rest_is c.self.inside.text.now c.self.inside.bytes.now c.self.inside.from c.self.invariant.0) c.if-self.false c.in-Some.at c.in-Some.ensures.0
    c.in-Some.ensures.1

pub returns-in-None-clause-some : goal.returns-in-None-clause-some
returns-in-None-clause-some c =
    sym c.self.view_is
    ∙ cut_nowhere c.self.inside.cut c.self.inside.text.now _ c.self.inside.from c.self.inside.is_done
    (rest_is c.self.inside.text.now c.self.inside.bytes.now c.self.inside.from c.self.invariant.0) c.if-self.false c.in-None.ensures
