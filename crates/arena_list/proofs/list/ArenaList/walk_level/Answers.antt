-- Each level ascends, and is some of the one below.
use Rattle.std.proofs.Common.{◌-◌, subst}
use Rattle.arena_list.specs.Versions.{AscendVersions, AreSomeOf}
use Rattle.arena_list.specs.Arena.{Arena, on_level}
use Rattle.arena_list.proofs.Arenas.{level_ascends, level_some}
use Rattle.arena_list.proofs.list.ArenaList.walk_level.Goals as goal

pub returns-clause-ascend : goal.returns-clause-ascend
returns-clause-ascend c =
    subst (λ (a : Arena). AscendVersions (on_level a c.args.level)) c.self.view_is
    (level_ascends c.self.inside.nodes.items c.self.inside.free.count c.args.level c.self.invariant.0.linked c.requires)

pub returns-clause-some : goal.returns-clause-some
returns-clause-some c =
    subst (λ (a : Arena). AreSomeOf (on_level a c.args.level) (on_level a (c.args.level - 1))) c.self.view_is
    (level_some c.self.inside.nodes.items c.self.inside.free.count c.args.level c.self.invariant.0.linked c.requires)
