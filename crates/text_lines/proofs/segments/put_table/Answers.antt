-- The pieces, one after another, are the line.
use Rattle.std.proofs.Common.{append_assoc}
use Rattle.std.proofs.lemmas.List.{append-nil}
use Rattle.text_lines.proofs.segments.put_table.Goals as goal

pub returns-clause-ok : goal.returns-clause-ok
returns-clause-ok c = simp append_assoc (simp (append_assoc, append-nil) at c.put_pieces.ensures.ok)
