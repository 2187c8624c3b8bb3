-- One link more is copied.
use Rattle.std.proofs.Common.{◌≡◌, ℕ, ◌<◌, length, length-set, inl, inr, sym, ◌∙◌, subst, arith, slice_index, slice_index_or, slice_set}
use Rattle.std.proofs.lemmas.Bool.{cases_eq}
use Rattle.std.proofs.lemmas.List.{get_or-set_same, get_or-set_other}
use Rattle.arena_list.specs.Nodes.{next_on}
use Rattle.arena_list.proofs.Levels.{read_next}
use Rattle.arena_list.proofs.links.links_after.Goals as goal

pub loop-level-preserved : goal.loop-level-preserved
loop-level-preserved c =
    let links = c.loop-level.links in
    let at = c.loop-level.level in
    let last = slice_index c.args.lasts.now at in
    let node = slice_index_or c.args.nodes.now last c.index-nodes-lasts.result in
    let low : at < length links = omega (arith, c.loop-level.invariant.len) in
    let within : last < length c.args.nodes.now = c.requires.within at (omega arith) in record {
      len = length-set links at (slice_index node.links at) ∙ c.loop-level.invariant.len;
      copied = λ level less. elim (cases_eq level at) [
        | inl is ↦ subst (λ (l : ℕ). slice_index (slice_set links at (slice_index node.links at)) l
            ≡ next_on c.args.nodes.now l (slice_index c.args.lasts.now l))
            (sym is)
            (get_or-set_same links at (slice_index node.links at) 0 low ∙ read_next c.args.nodes.now at last c.index-nodes-lasts.result within)
        | inr other ↦ get_or-set_other links at level (slice_index node.links at) 0 other
            ∙ c.loop-level.invariant.copied level (omega (arith, less, other))
      ];
    }
