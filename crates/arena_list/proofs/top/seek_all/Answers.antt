-- It begins at a place that is linked at the highest level, and each level is cut.
use Rattle.arena_list.proofs.Tops.{tall_last}
use Rattle.arena_list.proofs.top.seek_all.Goals as goal

pub seek-requires-clause-last : goal.seek-requires-clause-last
seek-requires-clause-last c =
    let sought = c.args.sought.now in
    tall_last c.args.nodes.now c.args.top.now c.requires.top sought.key.now sought.number c.args.index c.requires.index
    c.tall_before.result c.tall_before.ensures
