-- The pieces, one after another, are the line.
use Rattle.std.proofs.Common.{append_assoc}
use Rattle.std.proofs.lemmas.List.{append-nil}
use Rattle.text_lines.proofs.segments.put_segment.Goals as goal

pub returns-clause-ok : goal.returns-clause-ok
returns-clause-ok c =
    simp append_assoc (simp (c.as_bytes.ensures.value, c.side_name.ensures, c.as_bytes-2.ensures.value, c.torn_name.ensures, append_assoc, append-nil) at c.put_pieces.ensures.ok)
