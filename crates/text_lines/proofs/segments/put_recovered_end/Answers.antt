-- The pieces, one after another, are the line.
use Rattle.std.proofs.Common.{append_assoc}
use Rattle.std.proofs.lemmas.List.{append-nil}
use Rattle.text_lines.specs.Lines.{recovered_end}
use Rattle.text_lines.proofs.segments.put_recovered_end.Goals as goal

pub returns-clause-ok : goal.returns-clause-ok
unfolding recovered_end
returns-clause-ok c = simp append_assoc (simp append-nil at c.put_pieces.ensures.ok)
