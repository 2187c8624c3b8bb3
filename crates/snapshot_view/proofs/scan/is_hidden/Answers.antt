-- The newest range delete over a key hides its older versions.
use Rattle.arena_list.specs.Versions.{version_shown}
use Rattle.snapshot_view.proofs.Hiding.{hidden_by_newest, hidden_by_none}
use Rattle.snapshot_view.proofs.scan.is_hidden.Goals as goal

pub returns-in-Some : goal.returns-in-Some
returns-in-Some c =
    hidden_by_newest c.args.at (version_shown c.args.version.now) c.args.ranges.now c.in-Some.number c.in-Some.ensures

pub returns-in-None : goal.returns-in-None
returns-in-None c = hidden_by_none c.args.at (version_shown c.args.version.now) c.args.ranges.now c.in-None.ensures
