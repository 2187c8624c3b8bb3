-- The pieces, what is wrong and the line's end, one after another, are the line.
use Rattle.std.proofs.Common.{append_assoc}
use Rattle.std.proofs.lemmas.List.{append-nil}
use Rattle.text_lines.proofs.refusals.add_bad_batch.Goals as goal

pub returns-clause-ok : goal.returns-clause-ok
returns-clause-ok c =
    simp append_assoc (simp (c.in_ok-put_fault.ensures.ok, c.in_ok-put_pieces.ensures.ok, append_assoc, append-nil) at c.append.ensures.ok)
