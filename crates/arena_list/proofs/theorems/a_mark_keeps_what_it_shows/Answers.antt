use Rattle.arena_list.proofs.Held.{marks_keep}
use Rattle.arena_list.proofs.theorems.a_mark_keeps_what_it_shows.Goals as goal

pub returns : goal.returns
returns c = marks_keep
