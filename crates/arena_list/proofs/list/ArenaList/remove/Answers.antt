-- The place is linked out of each level and freed.
use Rattle.std.proofs.Common.{◌≡◌, ℕ, ◌+◌, ◌<◌, List, length, refl, sym, ap, ◌∙◌, subst, subst₂, vec_len}
use Rattle.std.specs.Vec.{with_items}
use Rattle.std.proofs.lemmas.List.{with_items_is}
use Rattle.arena_list.specs.declared.node.Node.{Node}
use Rattle.arena_list.specs.declared.guide.Guide.{Guide}
use Rattle.arena_list.specs.Versions.{HoldsVersion, LeavesOut}
use Rattle.arena_list.specs.Arena.{Arena, places_in}
use Rattle.arena_list.specs.Nodes.{version_at, places_on, versions_on, arena_of, IsArena}
use Rattle.arena_list.specs.Steps.{AreWithin, TakesOut}
use Rattle.arena_list.specs.Fronts.{ShareFront}
use Rattle.arena_list.specs.Tops.{places_of, IsTop, IsTopCut}
use Rattle.arena_list.proofs.Levels.{mapped}
use Rattle.arena_list.proofs.Left.{removal_of, held_within, lasts_within, removal_arena, removal_leaves, removal_places, removal_top, removal_front}
use Rattle.arena_list.proofs.list.ArenaList.remove.Goals as goal

pub take_out-requires-clause-within : goal.take_out-requires-clause-within
take_out-requires-clause-within c =
    let sought = c.among-sought.result in
    let lasts = c.lasts_for-lasts.result in
    let r = removal_of c.as_slice-nodes.result.now _ _ _ _ _ sought.key.now sought.number c.as_slice-nodes.ensures.value
    c.self.invariant.0 c.lasts_for-lasts.ensures c.in-Some.ensures.held c.in-Some.ensures.at in
    subst (λ (ns : List Node). AreWithin ns lasts) (sym c.as_mut_slice.ensures.value)
    (lasts_within r)

pub take_out-requires-clause-place : goal.take_out-requires-clause-place
take_out-requires-clause-place c =
    let sought = c.among-sought.result in
    let place = c.in-Some.place in
    let r = removal_of c.as_slice-nodes.result.now _ _ _ _ _ sought.key.now sought.number c.as_slice-nodes.ensures.value
    c.self.invariant.0 c.lasts_for-lasts.ensures c.in-Some.ensures.held c.in-Some.ensures.at in
    subst (λ (ns : List Node). place < length ns) (sym c.as_mut_slice.ensures.value)
    (held_within r)

pub invariant_of-self : goal.invariant_of-self
invariant_of-self c =
    let sought = c.among-sought.result in
    let items = c.self.inside.nodes.items in
    let lasts = c.lasts_for-lasts.result in
    let place = c.in-Some.place in
    let r = removal_of c.as_slice-nodes.result.now _ _ _ _ _ sought.key.now sought.number c.as_slice-nodes.ensures.value
    c.self.invariant.0 c.lasts_for-lasts.ensures c.in-Some.ensures.held c.in-Some.ensures.at in
    let new = c.take_out.new.nodes in
    let out : TakesOut items lasts place c.self.inside.free.first new =
    subst (λ (ns : List Node). TakesOut ns lasts place c.self.inside.free.first new) c.as_mut_slice.ensures.value c.take_out.ensures.out in
    let new_len : length new ≡ vec_len c.self.inside.nodes = c.take_out.ensures.out.len ∙ c.as_mut_slice.ensures.len in
    let top = c.self.inside.top.items in
    let index = c.find_spot-spot.result.index in
    let top_cut : IsTopCut items (places_of top) sought.key.now sought.number index =
    subst (λ (ns : List Node). IsTopCut ns (places_of top) sought.key.now sought.number index) c.as_slice-nodes.ensures.value
    (subst (λ (t : List Guide). IsTopCut c.as_slice-nodes.result.now (places_of t) sought.key.now sought.number index) c.as_slice-top.ensures.value
    c.find_spot-spot.ensures.index) in (
      subst (λ (ns : List Node). IsArena ns place (c.self.inside.free.count + 1)) (sym (with_items_is c.self.inside.nodes new new_len))
          (removal_arena r out),
      subst (ShareFront c.self.inside.shared) (sym (with_items_is c.self.inside.nodes new new_len)) (removal_front r out c.self.invariant.1),
      subst (λ (ns : List Node). IsTop c.self.inside.shared ns c.take_from_top.new.top.items) (sym (with_items_is c.self.inside.nodes new new_len))
          (removal_top r out top c.take_from_top.new.top.items index c.self.invariant.2 top_cut c.take_from_top.ensures),
    )

pub returns-clause-held : goal.returns-clause-held
returns-clause-held c =
    let sought = c.among-sought.result in
    let items = c.self.inside.nodes.items in
    let place = c.in-Some.place in
    let r = removal_of c.as_slice-nodes.result.now _ _ _ _ _ sought.key.now sought.number c.as_slice-nodes.ensures.value
    c.self.invariant.0 c.lasts_for-lasts.ensures c.in-Some.ensures.held c.in-Some.ensures.at in (
      λ _. subst₂ (λ (k : List ℕ) (n : ℕ). HoldsVersion c.args.self.now.versions k n) c.among-sought.ensures.key c.among-sought.ensures.number
          (subst (λ (a : Arena). HoldsVersion a.versions sought.key.now sought.number) c.self.view_is
          (version_at items place, mapped (version_at items) (places_on items 0) place r.held, r.at)),
      λ _. refl,
    )

pub returns-clause-versions : goal.returns-clause-versions
returns-clause-versions c =
    let sought = c.among-sought.result in
    let items = c.self.inside.nodes.items in
    let lasts = c.lasts_for-lasts.result in
    let place = c.in-Some.place in
    let r = removal_of c.as_slice-nodes.result.now _ _ _ _ _ sought.key.now sought.number c.as_slice-nodes.ensures.value
    c.self.invariant.0 c.lasts_for-lasts.ensures c.in-Some.ensures.held c.in-Some.ensures.at in
    let new = c.take_out.new.nodes in
    let out : TakesOut items lasts place c.self.inside.free.first new =
    subst (λ (ns : List Node). TakesOut ns lasts place c.self.inside.free.first new) c.as_mut_slice.ensures.value c.take_out.ensures.out in
    let new_len : length new ≡ vec_len c.self.inside.nodes = c.take_out.ensures.out.len ∙ c.as_mut_slice.ensures.len in
    subst₂ (λ (k : List ℕ) (n : ℕ). LeavesOut c.args.self.now.versions k n (versions_on (with_items c.self.inside.nodes new).items 0))
    c.among-sought.ensures.key c.among-sought.ensures.number
    (subst (λ (a : Arena). LeavesOut a.versions sought.key.now sought.number (versions_on (with_items c.self.inside.nodes new).items 0)) c.self.view_is
    (subst (λ (ns : List Node). LeavesOut (versions_on items 0) sought.key.now sought.number (versions_on ns 0))
    (sym (with_items_is c.self.inside.nodes new new_len))
    (removal_leaves r out)))

pub returns-clause-places : goal.returns-clause-places
returns-clause-places c =
    let sought = c.among-sought.result in
    let items = c.self.inside.nodes.items in
    let lasts = c.lasts_for-lasts.result in
    let place = c.in-Some.place in
    let r = removal_of c.as_slice-nodes.result.now _ _ _ _ _ sought.key.now sought.number c.as_slice-nodes.ensures.value
    c.self.invariant.0 c.lasts_for-lasts.ensures c.in-Some.ensures.held c.in-Some.ensures.at in
    let new = c.take_out.new.nodes in
    let out : TakesOut items lasts place c.self.inside.free.first new =
    subst (λ (ns : List Node). TakesOut ns lasts place c.self.inside.free.first new) c.as_mut_slice.ensures.value c.take_out.ensures.out in
    let new_len : length new ≡ vec_len c.self.inside.nodes = c.take_out.ensures.out.len ∙ c.as_mut_slice.ensures.len in
    ap (λ (ns : List Node). places_in (arena_of ns (c.self.inside.free.count + 1))) (with_items_is c.self.inside.nodes new new_len)
    ∙ removal_places r out ∙ ap places_in c.self.view_is
