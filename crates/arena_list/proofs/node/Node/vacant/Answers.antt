-- The other links are as they were made.
use Rattle.std.proofs.Common.{replicate, arith, ◌∙◌}
use Rattle.std.proofs.lemmas.List.{get_or-set_other}
use Rattle.arena_list.proofs.Arenas.{zeros_at}
use Rattle.arena_list.proofs.node.Node.vacant.Goals as goal

pub returns-clause-others : goal.returns-clause-others
returns-clause-others c level more = get_or-set_other (replicate 12 0) 0 level c.args.next 0 (λ e. omega (arith, more, e)) ∙ zeros_at 12 level
