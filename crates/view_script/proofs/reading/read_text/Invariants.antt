use Rattle.std.proofs.Common.{length}
use Rattle.line_words.specs.Words.{lines_of}
use Rattle.view_script.proofs.AskedSoFar.{AskedSoFar}
use Rattle.view_script.proofs.reading.read_text.Given as goal

abbrev pub invariant-loop-asked : goal.invariant-loop-asked
invariant-loop-asked l = AskedSoFar (lines_of l.text) l.lines l.asked l.number

abbrev pub decreases-loop-asked : goal.decreases-loop-asked
decreases-loop-asked l = length l.lines
