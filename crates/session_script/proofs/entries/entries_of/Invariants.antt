use Rattle.std.proofs.Common.{length}
use Rattle.session_script.proofs.EntriesSoFar.{EntriesSoFar}
use Rattle.session_script.proofs.entries.entries_of.Given as goal

abbrev pub invariant-loop-entries : goal.invariant-loop-entries
invariant-loop-entries l = EntriesSoFar l.initial.words l.words l.entries

abbrev pub decreases-loop-entries : goal.decreases-loop-entries
decreases-loop-entries l = length l.words
