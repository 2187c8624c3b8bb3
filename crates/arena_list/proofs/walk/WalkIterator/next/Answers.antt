-- Each step shows the version where it stands, and goes on to the next place.
use Rattle.std.proofs.Common.{◌≡◌, [], length, sym, ap, ◌∙◌, rules}
use Rattle.arena_list.specs.Versions.{version_shown}
use Rattle.arena_list.proofs.Walks.{walk_ends, steps_on, step_goes, step_shows}
use Rattle.arena_list.proofs.walk.WalkIterator.next.Goals as goal

pub returns-then-self-eq0-clause-steps : goal.returns-then-self-eq0-clause-steps
returns-then-self-eq0-clause-steps c =
    let none : c.args.self.now ≡ [] = sym c.self.view_is ∙ walk_ends c.self.inside.nodes.now c.self.inside.level c.self.inside.at c.if-self-eq0.true in
    (none, none)

pub bounds-self-inside-self-inside : goal.bounds-self-inside-self-inside
bounds-self-inside-self-inside c =
    (steps_on c.self.inside.nodes.now c.self.inside.level c.self.inside.at c.self.invariant c.if-self-eq0.false).there

pub invariant_of-self : goal.invariant_of-self
invariant_of-self c =
    step_goes c.self.inside.nodes.now c.self.inside.level c.self.inside.at c.index-self-self.result c.self.invariant c.if-self-eq0.false

pub returns-clause-steps : goal.returns-clause-steps
returns-clause-steps c =
    sym c.self.view_is
    ∙ step_shows c.self.inside.nodes.now c.self.inside.level c.self.inside.at c.index-self-self.result (version_shown c.version.result)
    c.self.invariant c.if-self-eq0.false c.version.ensures

pub returns-clause-goes : goal.returns-clause-goes
returns-clause-goes c =
    let step = sym c.self.view_is
    ∙ step_shows c.self.inside.nodes.now c.self.inside.level c.self.inside.at c.index-self-self.result (version_shown c.version.result)
    c.self.invariant c.if-self-eq0.false c.version.ensures in
    let shorter = ap length step in search rules
