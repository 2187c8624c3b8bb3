-- The place after the cut holds the version, where it is not the end.
use Rattle.std.proofs.Common.{◌≡◌, ℕ, List, Some, None, refl, sym, ap, ◌∙◌, subst, subst₂, arith}
use Rattle.arena_list.specs.declared.node.Node.{Node}
use Rattle.arena_list.specs.Versions.{KeyVersion, version_shown}
use Rattle.arena_list.specs.Spots.{IsFirstFrom}
use Rattle.arena_list.specs.Arena.{Arena}
use Rattle.arena_list.specs.Nodes.{versions_on, arena_of}
use Rattle.arena_list.proofs.Spots.{read_lands, spot_within, found_none, found_within, found_read, found_first}
use Rattle.arena_list.proofs.list.ArenaList.from.Goals as goal

pub bounds-nodes-spot : goal.bounds-nodes-spot
bounds-nodes-spot c = let sought = c.among-sought.result in
    spot_within c.as_slice-nodes.result.now _ _ _ sought.key.now sought.number _ c.as_slice-nodes.ensures.value c.self.invariant.0
    (c.find_spot-spot.ensures.lasts.low 0 (omega arith))

pub bounds-nodes-place : goal.bounds-nodes-place
bounds-nodes-place c =
    let sought = c.among-sought.result in
    let l = read_lands c.as_slice-nodes.result.now _ _ _ sought.key.now sought.number _ c.index-nodes-spot.result c.as_slice-nodes.ensures.value
    c.self.invariant.0 (c.find_spot-spot.ensures.lasts.low 0 (omega arith)) in
    found_within l c.if-place-eq0.false

pub returns-then-place-eq0 : goal.returns-then-place-eq0
returns-then-place-eq0 c =
    let sought = c.among-sought.result in
    let nodes = c.as_slice-nodes.result.now in
    let is : nodes ≡ c.self.inside.nodes.items = c.as_slice-nodes.ensures.value in
    let l = read_lands c.as_slice-nodes.result.now _ _ _ sought.key.now sought.number _ c.index-nodes-spot.result c.as_slice-nodes.ensures.value
    c.self.invariant.0 (c.find_spot-spot.ensures.lasts.low 0 (omega arith)) in
    subst₂ (λ (k : List ℕ) (n : ℕ). IsFirstFrom c.args.self.now.versions k n None) c.among-sought.ensures.key c.among-sought.ensures.number
    (subst (λ (a : Arena). IsFirstFrom a.versions sought.key.now sought.number None)
    (ap (λ (ns : List Node). arena_of ns c.self.inside.free.count) is ∙ c.self.view_is) (found_none l c.if-place-eq0.true))

pub returns : goal.returns
returns c =
    let sought = c.among-sought.result in
    let nodes = c.as_slice-nodes.result.now in
    let is : nodes ≡ c.self.inside.nodes.items = c.as_slice-nodes.ensures.value in
    let l = read_lands c.as_slice-nodes.result.now _ _ _ sought.key.now sought.number _ c.index-nodes-spot.result c.as_slice-nodes.ensures.value
    c.self.invariant.0 (c.find_spot-spot.ensures.lasts.low 0 (omega arith)) in
    subst₂ (λ (k : List ℕ) (n : ℕ). IsFirstFrom c.args.self.now.versions k n (Some (version_shown c.version.result)))
    c.among-sought.ensures.key c.among-sought.ensures.number
    (subst (λ (a : Arena). IsFirstFrom a.versions sought.key.now sought.number (Some (version_shown c.version.result)))
    (ap (λ (ns : List Node). arena_of ns c.self.inside.free.count) is ∙ c.self.view_is)
    (subst (λ (v : KeyVersion). IsFirstFrom (versions_on nodes 0) sought.key.now sought.number (Some v))
    (sym (c.version.ensures ∙ found_read l c.if-place-eq0.false nodes c.index-nodes-place.result refl c.index-nodes-place.is))
    (found_first l c.if-place-eq0.false)))
