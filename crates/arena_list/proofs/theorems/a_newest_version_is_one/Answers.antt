use Rattle.arena_list.proofs.Held.{newest_is_one}
use Rattle.arena_list.proofs.theorems.a_newest_version_is_one.Goals as goal

pub returns : goal.returns
returns c = newest_is_one
