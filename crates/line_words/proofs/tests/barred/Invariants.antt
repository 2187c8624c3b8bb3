use Rattle.std.proofs.Common.{length}
use Rattle.line_words.proofs.tests.barred.Given as goal

abbrev pub decreases-loop-out : goal.decreases-loop-out
decreases-loop-out l = length l.pieces
