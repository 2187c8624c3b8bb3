-- What is behind the first edge behind the key is not before that one.
use Rattle.std.proofs.Common.{◌≡◌, true, false, ap, sym, ◌∙◌}
use Rattle.std.specs.Ordering.{is_lt}
use Rattle.arena_list.specs.Versions.{version_shown}
use Rattle.range_cover.proofs.Telling.{first_far, none_far, on_false}
use Rattle.range_cover.proofs.edges.has_next.Goals as goal

pub returns-in-Some-clause-none : goal.returns-in-Some-clause-none
returns-in-Some-clause-none c = on_false c.is_lt.result (λ no.
    first_far c.args.edges.now.versions c.args.key.now c.requires.tops (version_shown c.in-Some.edge) c.args.end.now c.in-Some.ensures
    (λ less. let both : false ≡ true = sym no ∙ c.is_lt.ensures ∙ ap is_lt (c.cmp.ensures ∙ less) in cc))

pub returns-in-None-clause-none : goal.returns-in-None-clause-none
returns-in-None-clause-none c = none_far c.args.edges.now.versions c.args.key.now c.args.end.now c.in-None.ensures
