-- The walk begins where the search lands.
use Rattle.std.proofs.Common.{◌≡◌, ℕ, List, sym, ap, ◌∙◌, subst, subst₂, arith}
use Rattle.arena_list.specs.declared.node.Node.{Node}
use Rattle.arena_list.specs.Versions.{IsRestFrom}
use Rattle.arena_list.specs.Arena.{Arena}
use Rattle.arena_list.specs.Nodes.{versions_on, versions_along, arena_of, IsOnLevel}
use Rattle.arena_list.proofs.Arenas.{walk_begins_at}
use Rattle.arena_list.proofs.Spots.{read_lands, spot_within}
use Rattle.arena_list.proofs.list.ArenaList.walk_from.Goals as goal

pub bounds-nodes-spot : goal.bounds-nodes-spot
bounds-nodes-spot c = let sought = c.among-sought.result in
    spot_within c.as_slice-nodes.result.now _ _ _ sought.key.now sought.number _ c.as_slice-nodes.ensures.value c.self.invariant.0
    (c.find_spot-spot.ensures.lasts.low 0 (omega arith))

pub from-requires : goal.from-requires
from-requires c =
    let sought = c.among-sought.result in
    let nodes = c.as_slice-nodes.result.now in
    let l = read_lands c.as_slice-nodes.result.now _ _ _ sought.key.now sought.number _ c.index-nodes-spot.result c.as_slice-nodes.ensures.value
    c.self.invariant.0 (c.find_spot-spot.ensures.lasts.low 0 (omega arith)) in
    subst (IsOnLevel nodes 0) (sym l.next_is) (walk_begins_at nodes l.arena.linked sought.key.now sought.number _ l.cut).1

pub returns : goal.returns
returns c =
    let sought = c.among-sought.result in
    let nodes = c.as_slice-nodes.result.now in
    let is : nodes ≡ c.self.inside.nodes.items = c.as_slice-nodes.ensures.value in
    let l = read_lands c.as_slice-nodes.result.now _ _ _ sought.key.now sought.number _ c.index-nodes-spot.result c.as_slice-nodes.ensures.value
    c.self.invariant.0 (c.find_spot-spot.ensures.lasts.low 0 (omega arith)) in
    subst₂ (λ (k : List ℕ) (n : ℕ). IsRestFrom c.args.self.now.versions k n c.from.result) c.among-sought.ensures.key c.among-sought.ensures.number
    (subst (λ (a : Arena). IsRestFrom a.versions sought.key.now sought.number c.from.result)
    (ap (λ (ns : List Node). arena_of ns c.self.inside.free.count) is ∙ c.self.view_is)
    (subst (IsRestFrom (versions_on nodes 0) sought.key.now sought.number)
    (sym (c.from.ensures ∙ ap (versions_along nodes 0) l.next_is))
    (walk_begins_at nodes l.arena.linked sought.key.now sought.number _ l.cut).0))
