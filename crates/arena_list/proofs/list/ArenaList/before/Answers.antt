-- The last place before the cut holds the version, where it is not the head.
use Rattle.std.proofs.Common.{◌≡◌, ℕ, List, Some, None, sym, ap, ◌∙◌, subst, subst₂, arith, slice_index}
use Rattle.arena_list.specs.declared.node.Node.{Node}
use Rattle.arena_list.specs.Versions.{KeyVersion, version_shown}
use Rattle.arena_list.specs.Spots.{IsLastBefore}
use Rattle.arena_list.specs.Arena.{Arena}
use Rattle.arena_list.specs.Nodes.{IsLinked, versions_on, arena_of}
use Rattle.arena_list.proofs.Levels.{version_read}
use Rattle.arena_list.proofs.Spots.{some_before, none_before, spot_within}
use Rattle.arena_list.proofs.list.ArenaList.before.Goals as goal

pub bounds-nodes-place : goal.bounds-nodes-place
bounds-nodes-place c = let sought = c.among-sought.result in
    spot_within c.as_slice-nodes.result.now _ _ _ sought.key.now sought.number _ c.as_slice-nodes.ensures.value c.self.invariant.0
    (c.find_spot-spot.ensures.lasts.low 0 (omega arith))

pub returns-then-place-eq0 : goal.returns-then-place-eq0
returns-then-place-eq0 c =
    let sought = c.among-sought.result in
    let nodes = c.as_slice-nodes.result.now in
    let is : nodes ≡ c.self.inside.nodes.items = c.as_slice-nodes.ensures.value in
    subst₂ (λ (k : List ℕ) (n : ℕ). IsLastBefore c.args.self.now.versions k n None) c.among-sought.ensures.key c.among-sought.ensures.number
    (subst (λ (a : Arena). IsLastBefore a.versions sought.key.now sought.number None)
    (ap (λ (ns : List Node). arena_of ns c.self.inside.free.count) is ∙ c.self.view_is)
    (none_before nodes (subst IsLinked (sym is) c.self.invariant.0.linked) sought.key.now sought.number (slice_index c.find_spot-spot.result.lasts 0)
    (c.find_spot-spot.ensures.lasts.low 0 (omega arith)) c.if-place-eq0.true))

pub returns : goal.returns
returns c =
    let sought = c.among-sought.result in
    let nodes = c.as_slice-nodes.result.now in
    let is : nodes ≡ c.self.inside.nodes.items = c.as_slice-nodes.ensures.value in
    let linked : IsLinked nodes = subst IsLinked (sym is) c.self.invariant.0.linked in
    let last = slice_index c.find_spot-spot.result.lasts 0 in
    let cut = c.find_spot-spot.ensures.lasts.low 0 (omega arith) in
    let within = spot_within nodes _ _ _ sought.key.now sought.number last is c.self.invariant.0 cut in
    subst₂ (λ (k : List ℕ) (n : ℕ). IsLastBefore c.args.self.now.versions k n (Some (version_shown c.version.result)))
    c.among-sought.ensures.key c.among-sought.ensures.number
    (subst (λ (a : Arena). IsLastBefore a.versions sought.key.now sought.number (Some (version_shown c.version.result)))
    (ap (λ (ns : List Node). arena_of ns c.self.inside.free.count) is ∙ c.self.view_is)
    (subst (λ (v : KeyVersion). IsLastBefore (versions_on nodes 0) sought.key.now sought.number (Some v))
    (sym (c.version.ensures ∙ version_read nodes last c.index-nodes-place.result c.index-nodes-place.is within))
    (some_before nodes linked sought.key.now sought.number last cut c.if-place-eq0.false)))
