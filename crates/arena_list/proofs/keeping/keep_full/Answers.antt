-- The entries are filtered by a test that changes nothing.
use Rattle.std.proofs.Common.{rules}
use Rattle.std.proofs.lemmas.Fn.{filter_same}
use Rattle.arena_list.specs.Keeping.{is_full}
use Rattle.arena_list.proofs.keeping.keep_full.Goals as goal

pub returns : goal.returns
returns c = filter_same _ (λ guide. is_full c.args.nodes.now guide.place) _ (λ x b f' k. search rules) _ _ c.retain.ensures.filtered
