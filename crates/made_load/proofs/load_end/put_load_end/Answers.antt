use Rattle.std.proofs.Common.{append_assoc}
use Rattle.made_load.specs.Load.{load_end_line}
use Rattle.made_load.proofs.load_end.put_load_end.Goals as goal

pub returns-clause-ok : goal.returns-clause-ok
unfolding load_end_line
returns-clause-ok c =
    let word = c.put_digits.ensures in
    let live = c.from.ensures in
    let segments = c.from-2.ensures in
    simp append_assoc (simp (word, live, segments) at c.put_pieces.ensures.ok)
