use Rattle.std.proofs.Common.{ℕ, List, ◌++◌, ◌∷◌, [], sym, subst}
use Rattle.block_record.specs.Framing.{Standing}
use Rattle.block_record.specs.Promises.{framed_by}
use Rattle.table_text.specs.Writing.{HasLaid}
use Rattle.table_text.proofs.Laid.{lays_more}
use Rattle.table_text.proofs.writing.lay.Goals as goal

pub returns : goal.returns
returns c log records has =
    let old = c.args.framer.now in
    let bytes = c.args.bytes.now in
    subst (λ (t : List ℕ). HasLaid log (records ++ bytes ∷ []) c.frame.new.self t) (sym c.in_ok-frame.ensures.framed)
    (subst (λ (s : Standing). HasLaid log (records ++ bytes ∷ []) s (c.args.out.now ++ framed_by old 0 bytes)) (sym c.in_ok-frame.ensures.moved)
    (lays_more log records old c.args.out.now bytes has))
