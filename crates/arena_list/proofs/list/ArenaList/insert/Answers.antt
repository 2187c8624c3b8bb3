-- The front is lowered, which changes nothing that is seen. Then the place that was taken is linked in.
use Rattle.std.proofs.Common.{◌≡◌, ◌<◌, ℕ, List, length, take, drop, sym, ap, ap₂, ◌∙◌, subst, subst₂, vec_len}
use Rattle.std.specs.Vec.{with_items}
use Rattle.std.proofs.lemmas.List.{with_items_is, length-take-le}
use Rattle.arena_list.specs.declared.node.Held.{Held}
use Rattle.arena_list.specs.declared.node.Node.{Node}
use Rattle.arena_list.specs.declared.guide.Guide.{Guide}
use Rattle.arena_list.specs.declared.links.FreeList.{FreeList}
use Rattle.arena_list.specs.Versions.{version_with, HoldsVersion, Adds}
use Rattle.arena_list.specs.Arena.{Arena, UsesPlace}
use Rattle.arena_list.specs.Leads.{lead_of, AreBytes}
use Rattle.arena_list.specs.Nodes.{held_of, versions_on, arena_of, IsLinked, IsArena}
use Rattle.arena_list.specs.Fronts.{AllLed, ShareFront}
use Rattle.arena_list.specs.Steps.{AreCutsTo, AreWithin, PutsIn}
use Rattle.arena_list.specs.Tops.{places_of, IsTop, IsTopCut}
use Rattle.arena_list.proofs.Free.{some_first}
use Rattle.arena_list.proofs.Lowered.{IsLowered, lowered_as, lowered_front}
use Rattle.arena_list.proofs.Joined.{taken_within, lasts_within, lasts_apart, insertion_arena, insertion_front, insertion_adds, insertion_place, insertion_top}
use Rattle.arena_list.proofs.list.ArenaList.insert.Goals as goal

pub find_spot-spot-requires-clause-linked : goal.find_spot-spot-requires-clause-linked
find_spot-spot-requires-clause-linked c =
    let low_nodes = c.lower_front-self-inside.new.nodes in
    let base = (with_items c.self.inside.nodes low_nodes).items in
    let shared = c.lower_front-self-inside.result in
    let low : IsLowered c.self.inside.nodes.items base c.self.inside.free.first c.self.inside.free.count shared c.args.key
    (with_items c.self.inside.top c.lower_front-self-inside.new.top).items =
    lowered_as c.self.inside.nodes.items c.as_mut_slice-nodes.result.now low_nodes base c.self.inside.free.first c.self.inside.free.count shared
    c.as_slice.result.now c.args.key c.lower_front-self-inside.new.top (with_items c.self.inside.top c.lower_front-self-inside.new.top).items c.as_mut_slice-nodes.ensures.value
    (with_items_is c.self.inside.nodes low_nodes (c.lower_front-self-inside.ensures.kept.len ∙ c.as_mut_slice-nodes.ensures.len)) c.as_slice.ensures
    (with_items_is c.self.inside.top c.lower_front-self-inside.new.top (c.lower_front-self-inside.ensures.len ∙ c.as_mut_slice-top.ensures.len)) c.self.invariant.0
    c.lower_front-self-inside.ensures.kept c.lower_front-self-inside.ensures.within c.lower_front-self-inside.ensures.led c.lower_front-self-inside.ensures.top in
    subst IsLinked (sym c.as_slice-3.ensures.value) low.arena.linked

pub find_spot-spot-requires-clause-front : goal.find_spot-spot-requires-clause-front
find_spot-spot-requires-clause-front c =
    let low_nodes = c.lower_front-self-inside.new.nodes in
    let base = (with_items c.self.inside.nodes low_nodes).items in
    let shared = c.lower_front-self-inside.result in
    let low : IsLowered c.self.inside.nodes.items base c.self.inside.free.first c.self.inside.free.count shared c.args.key
    (with_items c.self.inside.top c.lower_front-self-inside.new.top).items =
    lowered_as c.self.inside.nodes.items c.as_mut_slice-nodes.result.now low_nodes base c.self.inside.free.first c.self.inside.free.count shared
    c.as_slice.result.now c.args.key c.lower_front-self-inside.new.top (with_items c.self.inside.top c.lower_front-self-inside.new.top).items c.as_mut_slice-nodes.ensures.value
    (with_items_is c.self.inside.nodes low_nodes (c.lower_front-self-inside.ensures.kept.len ∙ c.as_mut_slice-nodes.ensures.len)) c.as_slice.ensures
    (with_items_is c.self.inside.top c.lower_front-self-inside.new.top (c.lower_front-self-inside.ensures.len ∙ c.as_mut_slice-top.ensures.len)) c.self.invariant.0
    c.lower_front-self-inside.ensures.kept c.lower_front-self-inside.ensures.within c.lower_front-self-inside.ensures.led c.lower_front-self-inside.ensures.top in
    subst₂ ShareFront (sym c.behind-sought.ensures.shared) (sym c.as_slice-3.ensures.value) (lowered_front low)

pub find_spot-spot-requires-clause-told : goal.find_spot-spot-requires-clause-told
find_spot-spot-requires-clause-told c =
    let low_nodes = c.lower_front-self-inside.new.nodes in
    let base = (with_items c.self.inside.nodes low_nodes).items in
    let shared = c.lower_front-self-inside.result in
    let low : IsLowered c.self.inside.nodes.items base c.self.inside.free.first c.self.inside.free.count shared c.args.key
    (with_items c.self.inside.top c.lower_front-self-inside.new.top).items =
    lowered_as c.self.inside.nodes.items c.as_mut_slice-nodes.result.now low_nodes base c.self.inside.free.first c.self.inside.free.count shared
    c.as_slice.result.now c.args.key c.lower_front-self-inside.new.top (with_items c.self.inside.top c.lower_front-self-inside.new.top).items c.as_mut_slice-nodes.ensures.value
    (with_items_is c.self.inside.nodes low_nodes (c.lower_front-self-inside.ensures.kept.len ∙ c.as_mut_slice-nodes.ensures.len)) c.as_slice.ensures
    (with_items_is c.self.inside.top c.lower_front-self-inside.new.top (c.lower_front-self-inside.ensures.len ∙ c.as_mut_slice-top.ensures.len)) c.self.invariant.0
    c.lower_front-self-inside.ensures.kept c.lower_front-self-inside.ensures.within c.lower_front-self-inside.ensures.led c.lower_front-self-inside.ensures.top in
    c.behind-sought.ensures.told c.as_slice-3.result.now
    (subst₂ (λ (k : List ℕ) (ns : List Node). AllLed (take shared k) ns) (sym c.as_slice-2.ensures) (sym c.as_slice-3.ensures.value) low.led)

pub take_place-requires-clause-free : goal.take_place-requires-clause-free
take_place-requires-clause-free c =
    let low_nodes = c.lower_front-self-inside.new.nodes in
    let base = (with_items c.self.inside.nodes low_nodes).items in
    let shared = c.lower_front-self-inside.result in
    let low : IsLowered c.self.inside.nodes.items base c.self.inside.free.first c.self.inside.free.count shared c.args.key
    (with_items c.self.inside.top c.lower_front-self-inside.new.top).items =
    lowered_as c.self.inside.nodes.items c.as_mut_slice-nodes.result.now low_nodes base c.self.inside.free.first c.self.inside.free.count shared
    c.as_slice.result.now c.args.key c.lower_front-self-inside.new.top (with_items c.self.inside.top c.lower_front-self-inside.new.top).items c.as_mut_slice-nodes.ensures.value
    (with_items_is c.self.inside.nodes low_nodes (c.lower_front-self-inside.ensures.kept.len ∙ c.as_mut_slice-nodes.ensures.len)) c.as_slice.ensures
    (with_items_is c.self.inside.top c.lower_front-self-inside.new.top (c.lower_front-self-inside.ensures.len ∙ c.as_mut_slice-top.ensures.len)) c.self.invariant.0
    c.lower_front-self-inside.ensures.kept c.lower_front-self-inside.ensures.within c.lower_front-self-inside.ensures.led c.lower_front-self-inside.ensures.top in
    (low.arena.frees, low.arena.free)

pub invariant_of-self : goal.invariant_of-self
invariant_of-self c =
    let low_nodes = c.lower_front-self-inside.new.nodes in
    let base = (with_items c.self.inside.nodes low_nodes).items in
    let shared = c.lower_front-self-inside.result in
    let low : IsLowered c.self.inside.nodes.items base c.self.inside.free.first c.self.inside.free.count shared c.args.key
    (with_items c.self.inside.top c.lower_front-self-inside.new.top).items =
    lowered_as c.self.inside.nodes.items c.as_mut_slice-nodes.result.now low_nodes base c.self.inside.free.first c.self.inside.free.count shared
    c.as_slice.result.now c.args.key c.lower_front-self-inside.new.top (with_items c.self.inside.top c.lower_front-self-inside.new.top).items c.as_mut_slice-nodes.ensures.value
    (with_items_is c.self.inside.nodes low_nodes (c.lower_front-self-inside.ensures.kept.len ∙ c.as_mut_slice-nodes.ensures.len)) c.as_slice.ensures
    (with_items_is c.self.inside.top c.lower_front-self-inside.new.top (c.lower_front-self-inside.ensures.len ∙ c.as_mut_slice-top.ensures.len)) c.self.invariant.0
    c.lower_front-self-inside.ensures.kept c.lower_front-self-inside.ensures.within c.lower_front-self-inside.ensures.led c.lower_front-self-inside.ensures.top in
    let free_is = c.in_default.ensures.free in
    let is = c.in_default.ensures.nodes in (
      subst (λ (f : FreeList). IsArena c.take_place.new.nodes.items f.first f.count) (sym free_is)
          (subst (λ (ns : List Node). IsArena ns c.self.inside.free.first c.self.inside.free.count) (sym is) low.arena),
      subst (ShareFront shared) (sym is) (lowered_front low),
      subst (λ (ns : List Node). IsTop shared ns (with_items c.self.inside.top c.lower_front-self-inside.new.top).items) (sym is) low.guided,
    )

pub returns-in_default-clause-unchanged : goal.returns-in_default-clause-unchanged
returns-in_default-clause-unchanged c =
    let low_nodes = c.lower_front-self-inside.new.nodes in
    let base = (with_items c.self.inside.nodes low_nodes).items in
    let shared = c.lower_front-self-inside.result in
    let low : IsLowered c.self.inside.nodes.items base c.self.inside.free.first c.self.inside.free.count shared c.args.key
    (with_items c.self.inside.top c.lower_front-self-inside.new.top).items =
    lowered_as c.self.inside.nodes.items c.as_mut_slice-nodes.result.now low_nodes base c.self.inside.free.first c.self.inside.free.count shared
    c.as_slice.result.now c.args.key c.lower_front-self-inside.new.top (with_items c.self.inside.top c.lower_front-self-inside.new.top).items c.as_mut_slice-nodes.ensures.value
    (with_items_is c.self.inside.nodes low_nodes (c.lower_front-self-inside.ensures.kept.len ∙ c.as_mut_slice-nodes.ensures.len)) c.as_slice.ensures
    (with_items_is c.self.inside.top c.lower_front-self-inside.new.top (c.lower_front-self-inside.ensures.len ∙ c.as_mut_slice-top.ensures.len)) c.self.invariant.0
    c.lower_front-self-inside.ensures.kept c.lower_front-self-inside.ensures.within c.lower_front-self-inside.ensures.led c.lower_front-self-inside.ensures.top in
    ap₂ (λ (ns : List Node) (f : FreeList). arena_of ns f.count) c.in_default.ensures.nodes c.in_default.ensures.free ∙ low.seen ∙ c.self.view_is

pub put_in-requires-clause-within : goal.put_in-requires-clause-within
put_in-requires-clause-within c =
    let low_nodes = c.lower_front-self-inside.new.nodes in
    let base = (with_items c.self.inside.nodes low_nodes).items in
    let shared = c.lower_front-self-inside.result in
    let low : IsLowered c.self.inside.nodes.items base c.self.inside.free.first c.self.inside.free.count shared c.args.key
    (with_items c.self.inside.top c.lower_front-self-inside.new.top).items =
    lowered_as c.self.inside.nodes.items c.as_mut_slice-nodes.result.now low_nodes base c.self.inside.free.first c.self.inside.free.count shared
    c.as_slice.result.now c.args.key c.lower_front-self-inside.new.top (with_items c.self.inside.top c.lower_front-self-inside.new.top).items c.as_mut_slice-nodes.ensures.value
    (with_items_is c.self.inside.nodes low_nodes (c.lower_front-self-inside.ensures.kept.len ∙ c.as_mut_slice-nodes.ensures.len)) c.as_slice.ensures
    (with_items_is c.self.inside.top c.lower_front-self-inside.new.top (c.lower_front-self-inside.ensures.len ∙ c.as_mut_slice-top.ensures.len)) c.self.invariant.0
    c.lower_front-self-inside.ensures.kept c.lower_front-self-inside.ensures.within c.lower_front-self-inside.ensures.led c.lower_front-self-inside.ensures.top in
    let mid = c.take_place.new.nodes.items in
    let lasts = c.find_spot-spot.result.lasts in
    let height = c.tower_height-height.result in
    let cuts : AreCutsTo base c.args.key c.args.seq height lasts =
    subst (λ (ns : List Node). AreCutsTo ns c.args.key c.args.seq height lasts) c.as_slice-3.ensures.value
    (subst₂ (λ (k : List ℕ) (n : ℕ). AreCutsTo c.as_slice-3.result.now k n height lasts) (c.behind-sought.ensures.key ∙ c.as_slice-2.ensures)
    c.behind-sought.ensures.number c.find_spot-spot.ensures.lasts) in
    subst (λ (ns : List Node). AreWithin ns lasts) (sym c.as_mut_slice-nodes-2.ensures.value)
    (lasts_within base mid c.self.inside.free c.take_place.new.free lasts c.in-Ok.place height c.args.key c.args.seq low.arena cuts c.in-Ok.ensures.taken)

pub put_in-requires-clause-place : goal.put_in-requires-clause-place
put_in-requires-clause-place c =
    let low_nodes = c.lower_front-self-inside.new.nodes in
    let base = (with_items c.self.inside.nodes low_nodes).items in
    let shared = c.lower_front-self-inside.result in
    let low : IsLowered c.self.inside.nodes.items base c.self.inside.free.first c.self.inside.free.count shared c.args.key
    (with_items c.self.inside.top c.lower_front-self-inside.new.top).items =
    lowered_as c.self.inside.nodes.items c.as_mut_slice-nodes.result.now low_nodes base c.self.inside.free.first c.self.inside.free.count shared
    c.as_slice.result.now c.args.key c.lower_front-self-inside.new.top (with_items c.self.inside.top c.lower_front-self-inside.new.top).items c.as_mut_slice-nodes.ensures.value
    (with_items_is c.self.inside.nodes low_nodes (c.lower_front-self-inside.ensures.kept.len ∙ c.as_mut_slice-nodes.ensures.len)) c.as_slice.ensures
    (with_items_is c.self.inside.top c.lower_front-self-inside.new.top (c.lower_front-self-inside.ensures.len ∙ c.as_mut_slice-top.ensures.len)) c.self.invariant.0
    c.lower_front-self-inside.ensures.kept c.lower_front-self-inside.ensures.within c.lower_front-self-inside.ensures.led c.lower_front-self-inside.ensures.top in
    let mid = c.take_place.new.nodes.items in
    let lasts = c.find_spot-spot.result.lasts in
    let height = c.tower_height-height.result in
    let cuts : AreCutsTo base c.args.key c.args.seq height lasts =
    subst (λ (ns : List Node). AreCutsTo ns c.args.key c.args.seq height lasts) c.as_slice-3.ensures.value
    (subst₂ (λ (k : List ℕ) (n : ℕ). AreCutsTo c.as_slice-3.result.now k n height lasts) (c.behind-sought.ensures.key ∙ c.as_slice-2.ensures)
    c.behind-sought.ensures.number c.find_spot-spot.ensures.lasts) in
    subst (λ (ns : List Node). c.in-Ok.place < length ns) (sym c.as_mut_slice-nodes-2.ensures.value)
    (taken_within base mid c.self.inside.free c.take_place.new.free lasts c.in-Ok.place height c.args.key c.args.seq low.arena cuts c.in-Ok.ensures.taken)

pub put_in-requires-clause-apart : goal.put_in-requires-clause-apart
put_in-requires-clause-apart c =
    let low_nodes = c.lower_front-self-inside.new.nodes in
    let base = (with_items c.self.inside.nodes low_nodes).items in
    let shared = c.lower_front-self-inside.result in
    let low : IsLowered c.self.inside.nodes.items base c.self.inside.free.first c.self.inside.free.count shared c.args.key
    (with_items c.self.inside.top c.lower_front-self-inside.new.top).items =
    lowered_as c.self.inside.nodes.items c.as_mut_slice-nodes.result.now low_nodes base c.self.inside.free.first c.self.inside.free.count shared
    c.as_slice.result.now c.args.key c.lower_front-self-inside.new.top (with_items c.self.inside.top c.lower_front-self-inside.new.top).items c.as_mut_slice-nodes.ensures.value
    (with_items_is c.self.inside.nodes low_nodes (c.lower_front-self-inside.ensures.kept.len ∙ c.as_mut_slice-nodes.ensures.len)) c.as_slice.ensures
    (with_items_is c.self.inside.top c.lower_front-self-inside.new.top (c.lower_front-self-inside.ensures.len ∙ c.as_mut_slice-top.ensures.len)) c.self.invariant.0
    c.lower_front-self-inside.ensures.kept c.lower_front-self-inside.ensures.within c.lower_front-self-inside.ensures.led c.lower_front-self-inside.ensures.top in
    let mid = c.take_place.new.nodes.items in
    let lasts = c.find_spot-spot.result.lasts in
    let height = c.tower_height-height.result in
    let cuts : AreCutsTo base c.args.key c.args.seq height lasts =
    subst (λ (ns : List Node). AreCutsTo ns c.args.key c.args.seq height lasts) c.as_slice-3.ensures.value
    (subst₂ (λ (k : List ℕ) (n : ℕ). AreCutsTo c.as_slice-3.result.now k n height lasts) (c.behind-sought.ensures.key ∙ c.as_slice-2.ensures)
    c.behind-sought.ensures.number c.find_spot-spot.ensures.lasts) in
    lasts_apart base mid c.self.inside.free c.take_place.new.free lasts c.in-Ok.place height c.args.key c.args.seq low.arena cuts c.in-Ok.ensures.taken

pub invariant_of-self-2 : goal.invariant_of-self-2
invariant_of-self-2 c =
    let low_nodes = c.lower_front-self-inside.new.nodes in
    let base = (with_items c.self.inside.nodes low_nodes).items in
    let shared = c.lower_front-self-inside.result in
    let low : IsLowered c.self.inside.nodes.items base c.self.inside.free.first c.self.inside.free.count shared c.args.key
    (with_items c.self.inside.top c.lower_front-self-inside.new.top).items =
    lowered_as c.self.inside.nodes.items c.as_mut_slice-nodes.result.now low_nodes base c.self.inside.free.first c.self.inside.free.count shared
    c.as_slice.result.now c.args.key c.lower_front-self-inside.new.top (with_items c.self.inside.top c.lower_front-self-inside.new.top).items c.as_mut_slice-nodes.ensures.value
    (with_items_is c.self.inside.nodes low_nodes (c.lower_front-self-inside.ensures.kept.len ∙ c.as_mut_slice-nodes.ensures.len)) c.as_slice.ensures
    (with_items_is c.self.inside.top c.lower_front-self-inside.new.top (c.lower_front-self-inside.ensures.len ∙ c.as_mut_slice-top.ensures.len)) c.self.invariant.0
    c.lower_front-self-inside.ensures.kept c.lower_front-self-inside.ensures.within c.lower_front-self-inside.ensures.led c.lower_front-self-inside.ensures.top in
    let mid = c.take_place.new.nodes.items in
    let lasts = c.find_spot-spot.result.lasts in
    let height = c.tower_height-height.result in
    let cuts : AreCutsTo base c.args.key c.args.seq height lasts =
    subst (λ (ns : List Node). AreCutsTo ns c.args.key c.args.seq height lasts) c.as_slice-3.ensures.value
    (subst₂ (λ (k : List ℕ) (n : ℕ). AreCutsTo c.as_slice-3.result.now k n height lasts) (c.behind-sought.ensures.key ∙ c.as_slice-2.ensures)
    c.behind-sought.ensures.number c.find_spot-spot.ensures.lasts) in
    let new = c.put_in.new.nodes in
    let lead = c.behind-sought.result.lead in
    let put : PutsIn mid lasts c.in-Ok.place height (held_of c.args.key c.args.value) lead c.args.seq new =
    subst (λ (ns : List Node). PutsIn ns lasts c.in-Ok.place height (held_of c.args.key c.args.value) lead c.args.seq new) c.as_mut_slice-nodes-2.ensures.value
    (subst (λ (h : Held). PutsIn c.as_mut_slice-nodes-2.result.now lasts c.in-Ok.place height h lead c.args.seq new) c.of-held.ensures c.put_in.ensures) in
    let absent : HoldsVersion (versions_on base 0) c.args.key c.args.seq → ⊥ =
    λ holds. c.requires.absent (subst (λ (a : Arena). HoldsVersion a.versions c.args.key c.args.seq) (low.seen ∙ c.self.view_is) holds) in
    let new_len : length new ≡ vec_len c.take_place.new.nodes = c.put_in.ensures.len ∙ c.as_mut_slice-nodes-2.ensures.len in
    let whole = with_items_is c.take_place.new.nodes new new_len in
    let top = (with_items c.self.inside.top c.lower_front-self-inside.new.top).items in
    let index = c.find_spot-spot.result.index in
    let top_cut : IsTopCut base (places_of top) c.args.key c.args.seq index =
    subst₂ (λ (ns : List Node) (t : List Guide). IsTopCut ns (places_of t) c.args.key c.args.seq index) c.as_slice-3.ensures.value c.as_slice-4.ensures.value
    (subst₂ (λ (k : List ℕ) (n : ℕ). IsTopCut c.as_slice-3.result.now (places_of c.as_slice-4.result.now) k n index)
    (c.behind-sought.ensures.key ∙ c.as_slice-2.ensures) c.behind-sought.ensures.number c.find_spot-spot.ensures.index) in
    let len : length (take shared c.args.key) ≡ shared = length-take-le shared c.args.key low.within in
    let bytes : AreBytes c.args.key = subst AreBytes c.as_slice-2.ensures c.behind-sought.ensures.bytes in
    let led : lead ≡ lead_of (drop (length (take shared c.args.key)) c.args.key) =
    c.behind-sought.ensures.lead ∙ ap (λ (k : List ℕ). lead_of (drop shared k)) c.as_slice-2.ensures
    ∙ ap (λ (n : ℕ). lead_of (drop n c.args.key)) (sym len) in (
      subst (λ (ns : List Node). IsArena ns c.take_place.new.free.first c.take_place.new.free.count) (sym whole)
          (insertion_arena base mid c.self.inside.free c.take_place.new.free lasts c.in-Ok.place height c.args.key c.args.seq low.arena cuts c.in-Ok.ensures.taken new c.args.value lead absent c.tower_height-height.ensures.some c.tower_height-height.ensures.most put),
      subst (ShareFront shared) (sym whole) (record {
        front = take shared c.args.key;
        len = len;
        led = insertion_front base mid c.self.inside.free c.take_place.new.free lasts c.in-Ok.place height c.args.key c.args.seq low.arena cuts c.in-Ok.ensures.taken
            new c.args.value lead absent c.tower_height-height.ensures.some c.tower_height-height.ensures.most put (take shared c.args.key) low.led (ap (λ (n : ℕ). take n c.args.key) len) bytes led;
      }),
      subst (λ (ns : List Node). IsTop shared ns c.put_in_top.new.top.items) (sym whole)
          (insertion_top base mid c.self.inside.free c.take_place.new.free lasts c.in-Ok.place height c.args.key c.args.seq low.arena cuts c.in-Ok.ensures.taken new c.args.value lead absent c.tower_height-height.ensures.some c.tower_height-height.ensures.most put
          shared top c.put_in_top.new.top.items index low.guided top_cut c.put_in_top.ensures),
    )

pub returns-clause-added : goal.returns-clause-added
returns-clause-added c =
    let low_nodes = c.lower_front-self-inside.new.nodes in
    let base = (with_items c.self.inside.nodes low_nodes).items in
    let shared = c.lower_front-self-inside.result in
    let low : IsLowered c.self.inside.nodes.items base c.self.inside.free.first c.self.inside.free.count shared c.args.key
    (with_items c.self.inside.top c.lower_front-self-inside.new.top).items =
    lowered_as c.self.inside.nodes.items c.as_mut_slice-nodes.result.now low_nodes base c.self.inside.free.first c.self.inside.free.count shared
    c.as_slice.result.now c.args.key c.lower_front-self-inside.new.top (with_items c.self.inside.top c.lower_front-self-inside.new.top).items c.as_mut_slice-nodes.ensures.value
    (with_items_is c.self.inside.nodes low_nodes (c.lower_front-self-inside.ensures.kept.len ∙ c.as_mut_slice-nodes.ensures.len)) c.as_slice.ensures
    (with_items_is c.self.inside.top c.lower_front-self-inside.new.top (c.lower_front-self-inside.ensures.len ∙ c.as_mut_slice-top.ensures.len)) c.self.invariant.0
    c.lower_front-self-inside.ensures.kept c.lower_front-self-inside.ensures.within c.lower_front-self-inside.ensures.led c.lower_front-self-inside.ensures.top in
    let mid = c.take_place.new.nodes.items in
    let lasts = c.find_spot-spot.result.lasts in
    let height = c.tower_height-height.result in
    let cuts : AreCutsTo base c.args.key c.args.seq height lasts =
    subst (λ (ns : List Node). AreCutsTo ns c.args.key c.args.seq height lasts) c.as_slice-3.ensures.value
    (subst₂ (λ (k : List ℕ) (n : ℕ). AreCutsTo c.as_slice-3.result.now k n height lasts) (c.behind-sought.ensures.key ∙ c.as_slice-2.ensures)
    c.behind-sought.ensures.number c.find_spot-spot.ensures.lasts) in
    let new = c.put_in.new.nodes in
    let lead = c.behind-sought.result.lead in
    let put : PutsIn mid lasts c.in-Ok.place height (held_of c.args.key c.args.value) lead c.args.seq new =
    subst (λ (ns : List Node). PutsIn ns lasts c.in-Ok.place height (held_of c.args.key c.args.value) lead c.args.seq new) c.as_mut_slice-nodes-2.ensures.value
    (subst (λ (h : Held). PutsIn c.as_mut_slice-nodes-2.result.now lasts c.in-Ok.place height h lead c.args.seq new) c.of-held.ensures c.put_in.ensures) in
    let absent : HoldsVersion (versions_on base 0) c.args.key c.args.seq → ⊥ =
    λ holds. c.requires.absent (subst (λ (a : Arena). HoldsVersion a.versions c.args.key c.args.seq) (low.seen ∙ c.self.view_is) holds) in
    let new_len : length new ≡ vec_len c.take_place.new.nodes = c.put_in.ensures.len ∙ c.as_mut_slice-nodes-2.ensures.len in
    subst (λ (a : Arena). Adds a.versions (version_with c.args.key c.args.seq c.args.value) (versions_on (with_items c.take_place.new.nodes new).items 0))
    (low.seen ∙ c.self.view_is)
    (subst (λ (ns : List Node). Adds (versions_on base 0) (version_with c.args.key c.args.seq c.args.value) (versions_on ns 0))
    (sym (with_items_is c.take_place.new.nodes new new_len))
    (insertion_adds base mid c.self.inside.free c.take_place.new.free lasts c.in-Ok.place height c.args.key c.args.seq low.arena cuts c.in-Ok.ensures.taken new c.args.value lead absent c.tower_height-height.ensures.some c.tower_height-height.ensures.most put))

pub returns-clause-place : goal.returns-clause-place
returns-clause-place c =
    let low_nodes = c.lower_front-self-inside.new.nodes in
    let base = (with_items c.self.inside.nodes low_nodes).items in
    let shared = c.lower_front-self-inside.result in
    let low : IsLowered c.self.inside.nodes.items base c.self.inside.free.first c.self.inside.free.count shared c.args.key
    (with_items c.self.inside.top c.lower_front-self-inside.new.top).items =
    lowered_as c.self.inside.nodes.items c.as_mut_slice-nodes.result.now low_nodes base c.self.inside.free.first c.self.inside.free.count shared
    c.as_slice.result.now c.args.key c.lower_front-self-inside.new.top (with_items c.self.inside.top c.lower_front-self-inside.new.top).items c.as_mut_slice-nodes.ensures.value
    (with_items_is c.self.inside.nodes low_nodes (c.lower_front-self-inside.ensures.kept.len ∙ c.as_mut_slice-nodes.ensures.len)) c.as_slice.ensures
    (with_items_is c.self.inside.top c.lower_front-self-inside.new.top (c.lower_front-self-inside.ensures.len ∙ c.as_mut_slice-top.ensures.len)) c.self.invariant.0
    c.lower_front-self-inside.ensures.kept c.lower_front-self-inside.ensures.within c.lower_front-self-inside.ensures.led c.lower_front-self-inside.ensures.top in
    let mid = c.take_place.new.nodes.items in
    let lasts = c.find_spot-spot.result.lasts in
    let height = c.tower_height-height.result in
    let cuts : AreCutsTo base c.args.key c.args.seq height lasts =
    subst (λ (ns : List Node). AreCutsTo ns c.args.key c.args.seq height lasts) c.as_slice-3.ensures.value
    (subst₂ (λ (k : List ℕ) (n : ℕ). AreCutsTo c.as_slice-3.result.now k n height lasts) (c.behind-sought.ensures.key ∙ c.as_slice-2.ensures)
    c.behind-sought.ensures.number c.find_spot-spot.ensures.lasts) in
    let new = c.put_in.new.nodes in
    let lead = c.behind-sought.result.lead in
    let put : PutsIn mid lasts c.in-Ok.place height (held_of c.args.key c.args.value) lead c.args.seq new =
    subst (λ (ns : List Node). PutsIn ns lasts c.in-Ok.place height (held_of c.args.key c.args.value) lead c.args.seq new) c.as_mut_slice-nodes-2.ensures.value
    (subst (λ (h : Held). PutsIn c.as_mut_slice-nodes-2.result.now lasts c.in-Ok.place height h lead c.args.seq new) c.of-held.ensures c.put_in.ensures) in
    let absent : HoldsVersion (versions_on base 0) c.args.key c.args.seq → ⊥ =
    λ holds. c.requires.absent (subst (λ (a : Arena). HoldsVersion a.versions c.args.key c.args.seq) (low.seen ∙ c.self.view_is) holds) in
    let new_len : length new ≡ vec_len c.take_place.new.nodes = c.put_in.ensures.len ∙ c.as_mut_slice-nodes-2.ensures.len in
    subst (λ (a : Arena). UsesPlace a (arena_of (with_items c.take_place.new.nodes new).items c.take_place.new.free.count)) (low.seen ∙ c.self.view_is)
    (subst (λ (ns : List Node). UsesPlace (arena_of base c.self.inside.free.count) (arena_of ns c.take_place.new.free.count))
    (sym (with_items_is c.take_place.new.nodes new new_len))
    (insertion_place base mid c.self.inside.free c.take_place.new.free lasts c.in-Ok.place height c.args.key c.args.seq low.arena cuts c.in-Ok.ensures.taken new c.args.value lead absent c.tower_height-height.ensures.some c.tower_height-height.ensures.most put))

pub returns-in_default-clause-room : goal.returns-in_default-clause-room
returns-in_default-clause-room c some =
    c.in_default.ensures.room
    (some_first c.self.inside.nodes.items c.self.inside.free.first c.self.inside.free.count c.self.invariant.0.frees c.self.invariant.0.free
    (subst (λ (a : Arena). 0 < a.free) (sym c.self.view_is) some))
