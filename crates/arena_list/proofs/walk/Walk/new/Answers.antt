-- A walk begins at what the head leads on to.
use Rattle.arena_list.proofs.Walks.{walk_begins, walk_whole}
use Rattle.arena_list.proofs.walk.Walk.new.Goals as goal

pub invariant_of-result : goal.invariant_of-result
invariant_of-result c = walk_begins c.args.nodes.now c.args.level _ c.requires.linked c.requires.level c.requires.head

pub returns : goal.returns
returns c = walk_whole c.args.nodes.now c.args.level _ c.requires.head
