use Rattle.std.proofs.Common.{◌∷◌, List, ℕ, length, sym, ap, ◌∙◌, arith}
use Rattle.line_words.proofs.Cuts.{ends_within, part_is}
use Rattle.line_words.proofs.pieces.Pieces.next_part.Goals as goal

pub part-requires-clause-within : goal.part-requires-clause-within
part-requires-clause-within c =
    ends_within c.self.inside.cut c.self.inside.text.now c.in-Some.piece.now c.next.new.self c.self.inside.from c.self.inside.is_done
    (c.self.view_is ∙ c.in-Some.ensures.some) c.self.invariant.1

pub overflow_add-to : goal.overflow_add-to
overflow_add-to c = omega (arith, part-requires-clause-within c, ap length c.self.invariant.0)

pub returns-clause-some : goal.returns-clause-some
returns-clause-some c =
    c.in-Some.ensures.some
    ∙ ap (λ (p : List ℕ). p ∷ c.next.new.self)
    (sym (c.in_ok-part.ensures
    ∙ part_is c.self.inside.cut c.self.inside.text.now c.in-Some.piece.now c.next.new.self c.self.inside.from c.self.inside.is_done
    (c.self.view_is ∙ c.in-Some.ensures.some)))
