use Rattle.text_lines.proofs.Begins.{begins_further, on_err}
use Rattle.text_lines.proofs.pieces.add_pieces.Goals as goal

pub returns-in_err-add_piece-clause-err : goal.returns-in_err-add_piece-clause-err
returns-in_err-add_piece-clause-err c =
    on_err c.from_residual.result (begins_further c.args.out.now c.loop-piece.out c.add_piece.new.out _ c.loop-piece.invariant c.in_err-add_piece.ensures.err)
