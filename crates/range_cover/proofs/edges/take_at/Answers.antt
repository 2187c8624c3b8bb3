-- The first edge from the spot of the key and the greatest number on is the one at the key.
use Rattle.std.proofs.Common.{ℕ, List, refl, subst}
use Rattle.arena_list.specs.Versions.{version_taken, LeavesOut}
use Rattle.range_cover.proofs.Telling.{first_at, some_at}
use Rattle.range_cover.proofs.edges.take_at.Goals as goal

pub unreachable-requires : goal.unreachable-requires
unreachable-requires c = some_at c.args.edges.now.versions c.args.key.now c.requires.tops c.requires.there c.in_default.ensures.first

pub returns-clause-key : goal.returns-clause-key
returns-clause-key c =
    first_at c.args.edges.now.versions c.args.key.now c.requires.tops (version_taken (c.in-Some.key, c.in-Some.top, c.in-Some.field-0-2))
    c.requires.there c.in-Some.ensures.first

pub returns-clause-taken : goal.returns-clause-taken
returns-clause-taken c =
    let at =
    first_at c.args.edges.now.versions c.args.key.now c.requires.tops (version_taken (c.in-Some.key, c.in-Some.top, c.in-Some.field-0-2))
    c.requires.there c.in-Some.ensures.first in record {
      held = (version_taken (c.in-Some.key, c.in-Some.top, c.in-Some.field-0-2), c.in-Some.ensures.first.stands, (at, refl));
      left = subst (λ (k : List ℕ). LeavesOut c.args.edges.now.versions k c.in-Some.top c.take_from.new.self.versions) at c.in-Some.ensures.versions;
    }
