-- The place after the cut is linked out of each level and freed: what cuts the levels before it cuts them there, too.
use Rattle.std.proofs.Common.{◌≡◌, ℕ, ◌+◌, ◌<◌, false, List, Some, None, length, sym, ap, ◌∙◌, subst, subst₂, arith, vec_len, slice_index, slice_index_or}
use Rattle.std.specs.Vec.{with_items}
use Rattle.std.proofs.lemmas.List.{with_items_is}
use Rattle.arena_list.specs.declared.node.Held.{Held}
use Rattle.arena_list.specs.declared.node.Node.{Node}
use Rattle.arena_list.specs.declared.guide.Guide.{Guide}
use Rattle.arena_list.specs.Versions.{KeyVersion, version_with, LeavesOut}
use Rattle.arena_list.specs.Spots.{IsFirstFrom}
use Rattle.arena_list.specs.Arena.{Arena, places_in}
use Rattle.arena_list.specs.Nodes.{is_vacant, version_at, node_at, next_on, versions_on, arena_of, IsArena}
use Rattle.arena_list.specs.Steps.{AreWithin, TakesOut}
use Rattle.arena_list.specs.Fronts.{ShareFront}
use Rattle.arena_list.specs.Tops.{places_of, IsTop, IsTopCut}
use Rattle.arena_list.proofs.Left.{lasts_within, removal_arena, removal_leaves, removal_places, removal_top, removal_front}
use Rattle.arena_list.proofs.Spots.{lands_on, read_lands, spot_within, found_none, found_within, found_filled, found_first, found_removal, found_top, found_handed, nothing_handed}
use Rattle.arena_list.proofs.list.ArenaList.take_from.Goals as goal

pub bounds-nodes-spot : goal.bounds-nodes-spot
bounds-nodes-spot c = let sought = c.among-sought.result in
    spot_within c.as_slice-nodes.result.now _ _ _ sought.key.now sought.number _ c.as_slice-nodes.ensures.value c.self.invariant.0
    (c.find_spot-spot.ensures.lasts.low 0 (omega arith))

pub returns-then-taken-eq0-clause-first : goal.returns-then-taken-eq0-clause-first
returns-then-taken-eq0-clause-first c =
    let sought = c.among-sought.result in
    let l = lands_on c.as_slice-nodes.result.now _ _ _ sought.key.now sought.number _ c.index-nodes-spot.result c.as_slice-nodes.ensures.value
    c.self.invariant.0 (c.find_spot-spot.ensures.lasts.low 0 (omega arith)) in
    subst₂ (λ (k : List ℕ) (n : ℕ). IsFirstFrom c.args.self.now.versions k n None) c.among-sought.ensures.key c.among-sought.ensures.number
    (subst (λ (a : Arena). IsFirstFrom a.versions sought.key.now sought.number None) c.self.view_is
    (found_none l c.if-taken-eq0.true))

pub bounds-nodes-taken : goal.bounds-nodes-taken
bounds-nodes-taken c =
    let sought = c.among-sought.result in
    let l = read_lands c.as_slice-nodes.result.now _ _ _ sought.key.now sought.number _ c.index-nodes-spot.result c.as_slice-nodes.ensures.value
    c.self.invariant.0 (c.find_spot-spot.ensures.lasts.low 0 (omega arith)) in
    found_within l c.if-taken-eq0.false

pub bounds-nodes-taken-else-taken-eq0 : goal.bounds-nodes-taken-else-taken-eq0
bounds-nodes-taken-else-taken-eq0 c =
    let sought = c.among-sought.result in
    let l = read_lands c.as_slice-nodes.result.now _ _ _ sought.key.now sought.number _ c.index-nodes-spot.result c.as_slice-nodes.ensures.value
    c.self.invariant.0 (c.find_spot-spot.ensures.lasts.low 0 (omega arith)) in
    found_within l c.if-taken-eq0.false

pub lasts_for-lasts-requires-clause-next : goal.lasts_for-lasts-requires-clause-next
lasts_for-lasts-requires-clause-next c =
    let sought = c.among-sought.result in
    let last = slice_index c.find_spot-spot.result.lasts 0 in
    let l = lands_on c.as_slice-nodes.result.now _ _ _ sought.key.now sought.number _ c.index-nodes-spot.result c.as_slice-nodes.ensures.value
    c.self.invariant.0 (c.find_spot-spot.ensures.lasts.low 0 (omega arith)) in
    l.next_is ∙ ap (λ (ns : List Node). next_on ns 0 last) (sym c.as_slice-nodes.ensures.value)

pub take_out-held-requires-clause-within : goal.take_out-held-requires-clause-within
take_out-held-requires-clause-within c =
    let sought = c.among-sought.result in
    let l = lands_on c.as_slice-nodes.result.now _ _ _ sought.key.now sought.number _ c.index-nodes-spot.result c.as_slice-nodes.ensures.value
    c.self.invariant.0 (c.find_spot-spot.ensures.lasts.low 0 (omega arith)) in
    let lasts = c.lasts_for-lasts.result in
    let r = found_removal l c.if-taken-eq0.false _ _ c.as_slice-nodes.ensures.value c.lasts_for-lasts.ensures in
    subst (λ (ns : List Node). AreWithin ns lasts) (sym c.as_mut_slice.ensures.value)
    (lasts_within r)

pub take_out-held-requires-clause-place : goal.take_out-held-requires-clause-place
take_out-held-requires-clause-place c =
    let sought = c.among-sought.result in
    let items = c.self.inside.nodes.items in
    let nodes = c.as_slice-nodes.result.now in
    let last = slice_index c.find_spot-spot.result.lasts 0 in
    let place = slice_index (slice_index_or nodes last c.index-nodes-spot.result).links 0 in
    let l = lands_on c.as_slice-nodes.result.now _ _ _ sought.key.now sought.number _ c.index-nodes-spot.result c.as_slice-nodes.ensures.value
    c.self.invariant.0 (c.find_spot-spot.ensures.lasts.low 0 (omega arith)) in
    let within : place < length items = found_within l c.if-taken-eq0.false in
    subst (λ (ns : List Node). place < length ns) (sym c.as_mut_slice.ensures.value) within

pub unreachable-requires : goal.unreachable-requires
unreachable-requires c =
    let sought = c.among-sought.result in
    let items = c.self.inside.nodes.items in
    let nodes = c.as_slice-nodes.result.now in
    let last = slice_index c.find_spot-spot.result.lasts 0 in
    let place = slice_index (slice_index_or nodes last c.index-nodes-spot.result).links 0 in
    let l = lands_on c.as_slice-nodes.result.now _ _ _ sought.key.now sought.number _ c.index-nodes-spot.result c.as_slice-nodes.ensures.value
    c.self.invariant.0 (c.find_spot-spot.ensures.lasts.low 0 (omega arith)) in
    let was : c.take_out-held.result ≡ (node_at items place).held =
    subst (λ (ns : List Node). c.take_out-held.result ≡ (node_at ns place).held) c.as_mut_slice.ensures.value c.take_out-held.ensures.held in
    nothing_handed c.take_out-held.result c.in-None.ensures
    (subst (λ (h : Held). is_vacant h ≡ false) (sym was)
    (found_filled l c.if-taken-eq0.false))

pub invariant_of-self : goal.invariant_of-self
invariant_of-self c =
    let sought = c.among-sought.result in
    let items = c.self.inside.nodes.items in
    let nodes = c.as_slice-nodes.result.now in
    let last = slice_index c.find_spot-spot.result.lasts 0 in
    let first = c.self.inside.free.first in
    let count = c.self.inside.free.count in
    let place = slice_index (slice_index_or nodes last c.index-nodes-spot.result).links 0 in
    let l = lands_on c.as_slice-nodes.result.now _ _ _ sought.key.now sought.number _ c.index-nodes-spot.result c.as_slice-nodes.ensures.value
    c.self.invariant.0 (c.find_spot-spot.ensures.lasts.low 0 (omega arith)) in
    let lasts = c.lasts_for-lasts.result in
    let r = found_removal l c.if-taken-eq0.false _ _ c.as_slice-nodes.ensures.value c.lasts_for-lasts.ensures in
    let new = c.take_out-held.new.nodes in
    let out : TakesOut items lasts place first new =
    subst (λ (ns : List Node). TakesOut ns lasts place first new) c.as_mut_slice.ensures.value c.take_out-held.ensures.out in
    let new_len : length new ≡ vec_len c.self.inside.nodes = c.take_out-held.ensures.out.len ∙ c.as_mut_slice.ensures.len in
    let top = c.self.inside.top.items in
    let index = c.find_spot-spot.result.index in
    let top_cut : IsTopCut items (places_of top) sought.key.now sought.number index =
    subst (λ (ns : List Node). IsTopCut ns (places_of top) sought.key.now sought.number index) c.as_slice-nodes.ensures.value
    (subst (λ (t : List Guide). IsTopCut nodes (places_of t) sought.key.now sought.number index) c.as_slice-top.ensures.value c.find_spot-spot.ensures.index) in
    let own_top =
    found_top l c.if-taken-eq0.false top index c.self.invariant.2 top_cut in (
      subst (λ (ns : List Node). IsArena ns place (count + 1)) (sym (with_items_is c.self.inside.nodes new new_len))
          (removal_arena r out),
      subst (ShareFront c.self.inside.shared) (sym (with_items_is c.self.inside.nodes new new_len)) (removal_front r out c.self.invariant.1),
      subst (λ (ns : List Node). IsTop c.self.inside.shared ns c.take_from_top.new.top.items) (sym (with_items_is c.self.inside.nodes new new_len))
          (removal_top r out top c.take_from_top.new.top.items index c.self.invariant.2 own_top c.take_from_top.ensures),
    )

pub returns-clause-first : goal.returns-clause-first
returns-clause-first c =
    let sought = c.among-sought.result in
    let items = c.self.inside.nodes.items in
    let nodes = c.as_slice-nodes.result.now in
    let last = slice_index c.find_spot-spot.result.lasts 0 in
    let place = slice_index (slice_index_or nodes last c.index-nodes-spot.result).links 0 in
    let l = lands_on c.as_slice-nodes.result.now _ _ _ sought.key.now sought.number _ c.index-nodes-spot.result c.as_slice-nodes.ensures.value
    c.self.invariant.0 (c.find_spot-spot.ensures.lasts.low 0 (omega arith)) in
    let seq = (slice_index_or nodes place c.index-nodes-taken.result).seq in
    let given = found_handed l c.if-taken-eq0.false _ _ c.index-nodes-taken.result c.take_out-held.result c.in-Some.key c.in-Some.value
    c.as_slice-nodes.ensures.value c.as_mut_slice.ensures.value c.index-nodes-taken.is c.take_out-held.ensures.held c.in-Some.ensures in
    subst₂ (λ (k : List ℕ) (n : ℕ). IsFirstFrom c.args.self.now.versions k n (Some (version_with c.in-Some.key seq c.in-Some.value)))
    c.among-sought.ensures.key c.among-sought.ensures.number
    (subst (λ (a : Arena). IsFirstFrom a.versions sought.key.now sought.number (Some (version_with c.in-Some.key seq c.in-Some.value))) c.self.view_is
    (subst (λ (v : KeyVersion). IsFirstFrom (versions_on items 0) sought.key.now sought.number (Some v)) (sym given)
    (found_first l c.if-taken-eq0.false)))

pub returns-clause-versions : goal.returns-clause-versions
returns-clause-versions c =
    let sought = c.among-sought.result in
    let items = c.self.inside.nodes.items in
    let nodes = c.as_slice-nodes.result.now in
    let last = slice_index c.find_spot-spot.result.lasts 0 in
    let first = c.self.inside.free.first in
    let place = slice_index (slice_index_or nodes last c.index-nodes-spot.result).links 0 in
    let l = lands_on c.as_slice-nodes.result.now _ _ _ sought.key.now sought.number _ c.index-nodes-spot.result c.as_slice-nodes.ensures.value
    c.self.invariant.0 (c.find_spot-spot.ensures.lasts.low 0 (omega arith)) in
    let lasts = c.lasts_for-lasts.result in
    let r = found_removal l c.if-taken-eq0.false _ _ c.as_slice-nodes.ensures.value c.lasts_for-lasts.ensures in
    let seq = (slice_index_or nodes place c.index-nodes-taken.result).seq in
    let given = found_handed l c.if-taken-eq0.false _ _ c.index-nodes-taken.result c.take_out-held.result c.in-Some.key c.in-Some.value
    c.as_slice-nodes.ensures.value c.as_mut_slice.ensures.value c.index-nodes-taken.is c.take_out-held.ensures.held c.in-Some.ensures in
    let new = c.take_out-held.new.nodes in
    let out : TakesOut items lasts place first new =
    subst (λ (ns : List Node). TakesOut ns lasts place first new) c.as_mut_slice.ensures.value c.take_out-held.ensures.out in
    let new_len : length new ≡ vec_len c.self.inside.nodes = c.take_out-held.ensures.out.len ∙ c.as_mut_slice.ensures.len in
    let left = versions_on (with_items c.self.inside.nodes new).items 0 in
    subst (λ (a : Arena). LeavesOut a.versions c.in-Some.key seq left) c.self.view_is
    (subst (λ (v : KeyVersion). LeavesOut (versions_on items 0) v.key v.number left) (sym given)
    (subst (λ (ns : List Node). LeavesOut (versions_on items 0) (version_at items place).key (version_at items place).number (versions_on ns 0)) (sym (with_items_is c.self.inside.nodes new new_len))
    (removal_leaves r out)))

pub returns-clause-places : goal.returns-clause-places
returns-clause-places c =
    let sought = c.among-sought.result in
    let items = c.self.inside.nodes.items in
    let nodes = c.as_slice-nodes.result.now in
    let last = slice_index c.find_spot-spot.result.lasts 0 in
    let first = c.self.inside.free.first in
    let count = c.self.inside.free.count in
    let place = slice_index (slice_index_or nodes last c.index-nodes-spot.result).links 0 in
    let l = lands_on c.as_slice-nodes.result.now _ _ _ sought.key.now sought.number _ c.index-nodes-spot.result c.as_slice-nodes.ensures.value
    c.self.invariant.0 (c.find_spot-spot.ensures.lasts.low 0 (omega arith)) in
    let lasts = c.lasts_for-lasts.result in
    let r = found_removal l c.if-taken-eq0.false _ _ c.as_slice-nodes.ensures.value c.lasts_for-lasts.ensures in
    let new = c.take_out-held.new.nodes in
    let out : TakesOut items lasts place first new =
    subst (λ (ns : List Node). TakesOut ns lasts place first new) c.as_mut_slice.ensures.value c.take_out-held.ensures.out in
    let new_len : length new ≡ vec_len c.self.inside.nodes = c.take_out-held.ensures.out.len ∙ c.as_mut_slice.ensures.len in
    ap (λ (ns : List Node). places_in (arena_of ns (count + 1))) (with_items_is c.self.inside.nodes new new_len)
    ∙ removal_places r out ∙ ap places_in c.self.view_is
