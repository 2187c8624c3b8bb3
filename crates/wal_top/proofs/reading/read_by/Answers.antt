use Rattle.std.proofs.Common.{arith}
use Rattle.std.proofs.lemmas.List.{length-take}
use Rattle.wal_top.proofs.AddsPiece.{took_more}
use Rattle.wal_top.proofs.reading.read_by.Goals as goal

pub returns-in_err-count-clause-took : goal.returns-in_err-count-clause-took
returns-in_err-count-clause-took g c =
    took_more (g.S.Source.left c.args.src.now) (g.S.Source.left c.loop-room.src) (g.S.Source.left c.add_piece.new.src) c.loop-room.script
    c.loop-room.room _ c.loop-room.invariant.so_far c.add_piece.ensures.took
    (omega (arith, length-take c.min-most.result c.loop-room.piece))
