-- Both edges tell what was told.
use Rattle.std.proofs.Common.{subst, sym}
use Rattle.arena_list.specs.Arena.{Arena}
use Rattle.range_cover.specs.Edges.{IsCover}
use Rattle.range_cover.proofs.Telling.{cover_tops}
use Rattle.range_cover.proofs.edges.add_edges.Goals as goal

pub add_edge-requires : goal.add_edge-requires
add_edge-requires c = record { tops = cover_tops c.args.edges.now.versions c.requires.covers.0 c.requires.covers.1 }

pub add_edge-requires-2 : goal.add_edge-requires-2
add_edge-requires-2 c = record {
  tops = cover_tops c.add_edge.new.edges.versions c.requires.covers.0 (c.in_ok-add_edge.ensures.told c.requires.covers.0 c.requires.covers.1);
}

pub returns-in_err-add_edge-2-clause-told : goal.returns-in_err-add_edge-2-clause-told
returns-in_err-add_edge-2-clause-told c marks cover =
    subst (λ (a : Arena). IsCover a.versions marks) (sym c.in_err-add_edge-2.ensures.same) (c.in_ok-add_edge.ensures.told marks cover)

pub returns-clause-told : goal.returns-clause-told
returns-clause-told c marks cover = c.in_ok-add_edge-2.ensures.told marks (c.in_ok-add_edge.ensures.told marks cover)
