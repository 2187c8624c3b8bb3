-- A head alone: nothing is linked, and nothing is free.
use Rattle.std.proofs.Common.{◌≡◌, ℕ, ◌<◌, List, [], ◌∷◌, ◌++◌, sym, ap, ◌∙◌, subst, inl, inr, arith, slice_index}
use Rattle.std.proofs.lemmas.Bool.{cases_eq}
use Rattle.arena_list.specs.declared.node.Node.{Node}
use Rattle.arena_list.specs.Nodes.{versions_on, IsArena}
use Rattle.arena_list.specs.Fronts.{ShareFront}
use Rattle.arena_list.specs.Tops.{IsTop}
use Rattle.arena_list.proofs.Tops.{no_top}
use Rattle.arena_list.proofs.Arenas.{alone_arena, alone_front, alone_empty}
use Rattle.arena_list.proofs.list.ArenaList.new.Goals as goal

no_links : (node : Node) → slice_index node.links 0 ≡ 0 → ((level : ℕ) → 0 < level → slice_index node.links level ≡ 0)
    → (level : ℕ) → slice_index node.links level ≡ 0
no_links node first others level = elim (cases_eq level 0) [
  | inl is ↦ ap (slice_index node.links) is ∙ first
  | inr other ↦ others level (omega (arith, other))
]

pub invariant_of-result : goal.invariant_of-result
invariant_of-result c =
    let is : c.push.new.self.items ≡ c.vacant.result ∷ [] =
    c.in_ok-push.ensures.items ∙ ap (λ (l : List Node). l ++ c.vacant.result ∷ []) c.in_ok-nodes.ensures.items in (
      subst (λ (nodes : List Node). IsArena nodes 0 0) (sym is)
          (alone_arena c.vacant.result (no_links c.vacant.result c.vacant.ensures.next c.vacant.ensures.others)),
      subst (ShareFront 0) (sym is)
          (alone_front c.vacant.result (no_links c.vacant.result c.vacant.ensures.next c.vacant.ensures.others)),
      subst (IsTop 0 c.push.new.self.items) (sym c.new.ensures.items) (no_top 0 c.push.new.self.items),
    )

pub returns-clause-versions : goal.returns-clause-versions
returns-clause-versions c =
    let is : c.push.new.self.items ≡ c.vacant.result ∷ [] =
    c.in_ok-push.ensures.items ∙ ap (λ (l : List Node). l ++ c.vacant.result ∷ []) c.in_ok-nodes.ensures.items in
    ap (λ (nodes : List Node). versions_on nodes 0) is
    ∙ alone_empty c.vacant.result (no_links c.vacant.result c.vacant.ensures.next c.vacant.ensures.others)
