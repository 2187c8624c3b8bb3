-- What goes before the spot of the key and 0 is at the key or before it.
use Rattle.std.proofs.Common.{◌≡◌, ◌∙◌, true, false, inl, inr, refl}
use Rattle.std.proofs.lemmas.Slice.Eq.{bytes_eq-Decides}
use Rattle.arena_list.specs.Versions.{version_shown}
use Rattle.range_cover.proofs.Telling.{last_is_edge, none_is_edge, last_absent, none_absent}
use Rattle.range_cover.proofs.edges.top_to_add.Goals as goal

pub returns-in-None-clause-told : goal.returns-in-None-clause-told
returns-in-None-clause-told c = inr (none_is_edge c.args.edges.now.versions c.args.key.now c.requires.tops c.in-None.ensures, refl)

pub returns-in-None-clause-absent : goal.returns-in-None-clause-absent
returns-in-None-clause-absent c = none_absent c.args.edges.now.versions c.args.key.now c.requires.tops c.in-None.ensures

pub returns-else-eq-clause-told : goal.returns-else-eq-clause-told
returns-else-eq-clause-told c = inl (
  version_shown c.in-Some.edge,
  last_is_edge c.args.edges.now.versions c.args.key.now c.requires.tops (version_shown c.in-Some.edge) c.in-Some.ensures,
  refl,
)

pub returns-else-eq-clause-absent : goal.returns-else-eq-clause-absent
returns-else-eq-clause-absent c =
    last_absent c.args.edges.now.versions c.args.key.now c.requires.tops (version_shown c.in-Some.edge) c.in-Some.ensures
    (λ same. let both : false ≡ true = c.if-eq.ensures ∙ (bytes_eq-Decides c.in-Some.edge.key.now c.args.key.now).1 same in cc)
