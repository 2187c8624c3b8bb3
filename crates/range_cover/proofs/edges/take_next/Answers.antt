-- The first edge behind the key is taken out.
use Rattle.std.proofs.Common.{refl, subst}
use Rattle.arena_list.specs.Versions.{KeyVersion, version_taken}
use Rattle.range_cover.specs.Marks.{StandsBefore}
use Rattle.range_cover.proofs.Telling.{first_behind, first_before, one_first}
use Rattle.range_cover.proofs.edges.take_next.Goals as goal

pub returns-clause-taken : goal.returns-clause-taken
returns-clause-taken c =
    let edges = c.args.edges.now.versions in
    let key = c.args.key.now in
    let one = version_taken (c.in-Some.key, c.in-Some.top, c.in-Some.field-0-2) in
    let first = c.in-Some.ensures.first in
    let has = c.if-not-has_next.ensures.some in record {
      taken = record { held = (one, first.stands, (refl, refl)); left = c.in-Some.ensures.versions };
      behind = first_behind edges key c.requires.tops one first;
      before = subst (λ (v : KeyVersion). StandsBefore v.key c.args.end.now) (one_first edges key 0 has.0 one has.1 first) has.2;
      first = first_before edges key c.requires.tops one first;
    }
