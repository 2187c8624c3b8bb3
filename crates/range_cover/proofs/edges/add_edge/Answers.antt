-- The new edge tells what was told.
use Rattle.std.proofs.Common.{List, ℕ, subst, None}
use Rattle.arena_list.specs.Versions.{version_with, Adds}
use Rattle.range_cover.specs.Edges.{HasEdge}
use Rattle.range_cover.specs.Steps.{Tells}
use Rattle.range_cover.proofs.Telling.{added_tells, has_more, has_it}
use Rattle.range_cover.proofs.edges.add_edge.Goals as goal

pub returns-clause-told : goal.returns-clause-told
returns-clause-told c marks =
    let old = c.args.edges.now.versions in
    let adds : Adds old (version_with c.args.key.now c.in-Some.top None) c.insert.new.self.versions =
    subst (λ (k : List ℕ). Adds old (version_with k c.in-Some.top None) c.insert.new.self.versions) c.in_ok-share.ensures c.in-Ok.ensures.added in
    added_tells old c.insert.new.self.versions marks c.args.key.now c.in-Some.top
    (subst (λ (k : List ℕ). HasEdge old k → ⊥) c.as_slice.ensures c.in-Some.ensures.absent)
    (subst (λ (k : List ℕ). Tells old k c.in-Some.top) c.as_slice.ensures c.in-Some.ensures.told) adds

pub returns-clause-there : goal.returns-clause-there
returns-clause-there c =
    subst (HasEdge c.insert.new.self.versions) c.in_ok-share.ensures
    (has_it c.args.edges.now.versions c.insert.new.self.versions (version_with c.in_ok-share.field-0 c.in-Some.top None) c.in-Ok.ensures.added)

pub returns-clause-kept : goal.returns-clause-kept
returns-clause-kept c other =
    has_more c.args.edges.now.versions c.insert.new.self.versions (version_with c.in_ok-share.field-0 c.in-Some.top None) c.in-Ok.ensures.added other
