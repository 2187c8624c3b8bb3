-- The nodes are swept, and the entries whose nodes are still full are kept.
use Rattle.std.proofs.Common.{◌≡◌, ℕ, List, length, sym, ap, ◌∙◌, subst, vec_len}
use Rattle.std.specs.List.{filter}
use Rattle.std.specs.Vec.{with_items}
use Rattle.std.proofs.lemmas.List.{with_items_is}
use Rattle.arena_list.specs.declared.node.Node.{Node}
use Rattle.arena_list.specs.declared.guide.Guide.{Guide}
use Rattle.arena_list.specs.Arena.{Arena}
use Rattle.arena_list.specs.Marks.{KeepsMarked}
use Rattle.arena_list.specs.Nodes.{versions_on, IsArena}
use Rattle.arena_list.specs.Fronts.{ShareFront}
use Rattle.arena_list.specs.Tops.{IsTop}
use Rattle.arena_list.specs.Keeping.{is_full, Sweeps}
use Rattle.arena_list.proofs.Swept.{swept_top}
use Rattle.arena_list.proofs.list.ArenaList.keep_for.Goals as goal

pub invariant_of-self : goal.invariant_of-self
invariant_of-self c =
    let items = c.self.inside.nodes.items in
    let top = c.self.inside.top.items in
    let new = c.sweep-removed.new.nodes in
    let new_free = c.sweep-removed.new.free in
    let swept : Sweeps items c.self.inside.free c.as_slice.result.now new new_free c.sweep-removed.result =
    subst (λ (ns : List Node). Sweeps ns c.self.inside.free c.as_slice.result.now new new_free c.sweep-removed.result)
    c.as_mut_slice-nodes.ensures.value c.sweep-removed.ensures.swept in
    let new_len : length new ≡ vec_len c.self.inside.nodes = c.sweep-removed.ensures.swept.len ∙ c.as_mut_slice-nodes.ensures.len in
    let whole : (with_items c.self.inside.nodes new).items ≡ new = with_items_is c.self.inside.nodes new new_len in
    let full : c.keep_full.new.top.items ≡ filter (λ (guide : Guide). is_full new guide.place) top =
    c.keep_full.ensures ∙ ap (λ (ns : List Node). filter (λ (guide : Guide). is_full ns guide.place) top) (c.as_slice-2.ensures.value ∙ whole) in (
      subst (λ (ns : List Node). IsArena ns new_free.first new_free.count) (sym whole) swept.arena,
      subst (ShareFront c.self.inside.shared) (sym whole) c.sweep-removed.ensures.front,
      subst (λ (ns : List Node). IsTop c.self.inside.shared ns c.keep_full.new.top.items) (sym whole)
          (subst (IsTop c.self.inside.shared new) (sym full)
          (swept_top items c.self.inside.free c.as_slice.result.now new new_free c.sweep-removed.result top swept c.self.invariant.2)),
    )

pub returns-clause-kept : goal.returns-clause-kept
returns-clause-kept c =
    let items = c.self.inside.nodes.items in
    let new = c.sweep-removed.new.nodes in
    let new_free = c.sweep-removed.new.free in
    let swept : Sweeps items c.self.inside.free c.args.marks.now new new_free c.sweep-removed.result =
    subst (λ (ms : List ℕ). Sweeps items c.self.inside.free ms new new_free c.sweep-removed.result) c.as_slice.ensures
    (subst (λ (ns : List Node). Sweeps ns c.self.inside.free c.as_slice.result.now new new_free c.sweep-removed.result)
    c.as_mut_slice-nodes.ensures.value c.sweep-removed.ensures.swept) in
    let new_len : length new ≡ vec_len c.self.inside.nodes = c.sweep-removed.ensures.swept.len ∙ c.as_mut_slice-nodes.ensures.len in
    subst (λ (ns : List Node). KeepsMarked c.args.self.now.versions c.args.marks.now (versions_on ns 0))
    (sym (with_items_is c.self.inside.nodes new new_len))
    (subst (λ (a : Arena). KeepsMarked a.versions c.args.marks.now (versions_on new 0)) c.self.view_is swept.kept)
