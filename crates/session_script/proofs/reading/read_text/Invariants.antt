use Rattle.std.proofs.Common.{length}
use Rattle.line_words.specs.Words.{lines_of}
use Rattle.session_script.proofs.LinesSoFar.{LinesSoFar}
use Rattle.session_script.proofs.reading.read_text.Given as goal

abbrev pub invariant-loop-draft : goal.invariant-loop-draft
invariant-loop-draft l = LinesSoFar (lines_of l.text) l.lines l.draft l.number

abbrev pub decreases-loop-draft : goal.decreases-loop-draft
decreases-loop-draft l = length l.lines
