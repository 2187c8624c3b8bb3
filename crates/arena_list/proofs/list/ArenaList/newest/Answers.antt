-- The version right after the cut is the newest one, if it has the key.
use Rattle.std.proofs.Common.{◌≡◌, ℕ, ◌+◌, List, refl, sym, ap, ◌∙◌, subst, inl, inr, arith}
use Rattle.std.proofs.lemmas.Bool.{iff_false}
use Rattle.arena_list.specs.declared.node.Node.{Node}
use Rattle.arena_list.specs.Versions.{KeyVersion}
use Rattle.arena_list.specs.Newest.{FindsNewestOfKey, HasNoneOfKey}
use Rattle.arena_list.specs.Arena.{Arena}
use Rattle.arena_list.specs.Nodes.{version_in, versions_on, arena_of}
use Rattle.arena_list.proofs.Arenas.{lands_on_newest, lands_on_none}
use Rattle.arena_list.proofs.Fronts.{told_read}
use Rattle.arena_list.proofs.Spots.{read_lands, spot_within, found_held, found_within, found_read}
use Rattle.arena_list.proofs.list.ArenaList.newest.Goals as goal
use Rattle.arena_list.proofs.list.ArenaList.newest.Goals.{then-place-eq0-via-then-place-eq0, then-place-eq0-via-else-place-eq0+then-not-has_key}

pub bounds-nodes-spot : goal.bounds-nodes-spot
bounds-nodes-spot c = let sought = c.among-sought.result in
    spot_within c.as_slice-nodes.result.now _ _ _ sought.key.now sought.number _ c.as_slice-nodes.ensures.value c.self.invariant.0
    (c.find_spot-spot.ensures.lasts.low 0 (omega arith))

pub bounds-nodes-place : goal.bounds-nodes-place
bounds-nodes-place c =
    let sought = c.among-sought.result in
    let l = read_lands c.as_slice-nodes.result.now _ _ _ sought.key.now sought.number _ c.index-nodes-spot.result c.as_slice-nodes.ensures.value
    c.self.invariant.0 (c.find_spot-spot.ensures.lasts.low 0 (omega arith)) in
    found_within l c.if-place-eq0.false

pub has_key-requires : goal.has_key-requires
has_key-requires c =
    let sought = c.among-sought.result in
    let l = read_lands c.as_slice-nodes.result.now _ _ _ sought.key.now sought.number _ c.index-nodes-spot.result c.as_slice-nodes.ensures.value
    c.self.invariant.0 (c.find_spot-spot.ensures.lasts.low 0 (omega arith)) in
    told_read c.as_slice-nodes.result.now sought _ c.index-nodes-place.result c.among-sought.ensures.told (found_held l c.if-place-eq0.false)
    (found_within l c.if-place-eq0.false) c.index-nodes-place.is

pub bounds-nodes-place-2 : goal.bounds-nodes-place-2
bounds-nodes-place-2 c =
    let sought = c.among-sought.result in
    let l = read_lands c.as_slice-nodes.result.now _ _ _ sought.key.now sought.number _ c.index-nodes-spot.result c.as_slice-nodes.ensures.value
    c.self.invariant.0 (c.find_spot-spot.ensures.lasts.low 0 (omega arith)) in
    found_within l c.if-place-eq0.false

pub returns-then-place-eq0 : goal.returns-then-place-eq0
returns-then-place-eq0 c =
    let sought = c.among-sought.result in
    let nodes = c.as_slice-nodes.result.now in
    let is : nodes ≡ c.self.inside.nodes.items = c.as_slice-nodes.ensures.value in
    let l = read_lands c.as_slice-nodes.result.now _ _ _ sought.key.now sought.number _ c.index-nodes-spot.result c.as_slice-nodes.ensures.value
    c.self.invariant.0 (c.find_spot-spot.ensures.lasts.low 0 (omega arith)) in
    let below : sought.number + 1 ≡ c.args.below = omega (arith, c.among-sought.ensures.number) in
    subst (λ (k : List ℕ). HasNoneOfKey c.args.self.now.versions k c.args.below) c.among-sought.ensures.key
    (subst (λ (a : Arena). HasNoneOfKey a.versions sought.key.now c.args.below)
    (ap (λ (ns : List Node). arena_of ns c.self.inside.free.count) is ∙ c.self.view_is)
    (subst (HasNoneOfKey (versions_on nodes 0) sought.key.now) below
    (lands_on_none nodes l.arena.linked sought.key.now sought.number _ l.cut _ l.next_is
    (elim c.then-place-eq0.branch [
      | then-place-eq0-via-then-place-eq0 w ↦ inl w.if-place-eq0.true
      | then-place-eq0-via-else-place-eq0+then-not-has_key w ↦ inr (λ same. iff_false w.has_key.ensures w.if-not-has_key.true
          (ap (λ (v : KeyVersion). v.key)
          (found_read l w.if-place-eq0.false nodes w.index-nodes-place.result refl w.index-nodes-place.is) ∙ same))
    ]))))

pub returns : goal.returns
returns c =
    let sought = c.among-sought.result in
    let nodes = c.as_slice-nodes.result.now in
    let is : nodes ≡ c.self.inside.nodes.items = c.as_slice-nodes.ensures.value in
    let l = read_lands c.as_slice-nodes.result.now _ _ _ sought.key.now sought.number _ c.index-nodes-spot.result c.as_slice-nodes.ensures.value
    c.self.invariant.0 (c.find_spot-spot.ensures.lasts.low 0 (omega arith)) in
    let one : KeyVersion = version_in c.index-nodes-place-2.result in
    let at = found_read l c.if-place-eq0.false nodes c.index-nodes-place-2.result refl c.index-nodes-place-2.is in
    let same : one.key ≡ sought.key.now =
    ap (λ (v : KeyVersion). v.key) (at ∙ sym (found_read l c.if-place-eq0.false nodes c.index-nodes-place.result refl c.index-nodes-place.is))
    ∙ c.has_key.ensures.0 c.if-not-has_key.false in
    let below : sought.number + 1 ≡ c.args.below = omega (arith, c.among-sought.ensures.number) in
    subst (λ (k : List ℕ). FindsNewestOfKey c.args.self.now.versions k c.args.below c.one.result) c.among-sought.ensures.key
    (subst (λ (a : Arena). FindsNewestOfKey a.versions sought.key.now c.args.below c.one.result)
    (ap (λ (ns : List Node). arena_of ns c.self.inside.free.count) is ∙ c.self.view_is)
    (subst (λ (n : ℕ). FindsNewestOfKey (versions_on nodes 0) sought.key.now n c.one.result) below
    (lands_on_newest nodes l.arena.linked sought.key.now sought.number _ l.cut _ l.next_is one c.one.result c.if-place-eq0.false at same c.one.ensures)))
