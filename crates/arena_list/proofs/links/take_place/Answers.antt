-- The first free place has a node.
use Rattle.std.proofs.Common.{arith}
use Rattle.arena_list.proofs.Free.{first_free}
use Rattle.arena_list.proofs.links.take_place.Goals as goal

pub index-requires : goal.index-requires
index-requires c =
    let nodes = c.args.nodes.now.items in
    let f = first_free nodes c.args.free.now.first c.args.free.now.count c.requires.free.0 c.requires.free.1 c.if-place-ne0.true in
    omega (arith, f.there.0, c.args.nodes.now.ok.0)
