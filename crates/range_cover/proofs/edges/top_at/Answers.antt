-- What goes before the spot of the key and 0 is at the key or before it.
use Rattle.std.proofs.Common.{inl, inr, refl}
use Rattle.arena_list.specs.Versions.{version_shown}
use Rattle.range_cover.proofs.Telling.{last_is_edge, none_is_edge}
use Rattle.range_cover.proofs.edges.top_at.Goals as goal

pub returns-in-Some : goal.returns-in-Some
returns-in-Some c = inl (
  version_shown c.in-Some.edge,
  last_is_edge c.args.edges.now.versions c.args.key.now c.requires.tops (version_shown c.in-Some.edge) c.in-Some.ensures,
  refl,
)

pub returns-in-None : goal.returns-in-None
returns-in-None c = inr (none_is_edge c.args.edges.now.versions c.args.key.now c.requires.tops c.in-None.ensures, refl)
