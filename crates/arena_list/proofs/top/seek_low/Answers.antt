-- It begins between the places beside the index.
use Rattle.arena_list.proofs.Tops.{top_last, top_next}
use Rattle.arena_list.proofs.top.seek_low.Goals as goal

pub seek-requires-clause-last : goal.seek-requires-clause-last
seek-requires-clause-last c =
    let sought = c.args.sought.now in
    top_last c.args.nodes.now c.args.top.now c.requires.top sought.key.now sought.number c.args.index c.requires.index
    c.place_before.result c.place_before.ensures

pub seek-requires-clause-next : goal.seek-requires-clause-next
seek-requires-clause-next c =
    let sought = c.args.sought.now in
    top_next c.args.nodes.now c.args.top.now c.requires.top sought.key.now sought.number c.args.index c.requires.index
    c.place_from.result c.place_from.ensures
