-- The turns so far are shared out.
use Rattle.session_rounds.proofs.Sharing.{SharedSoFar}
use Rattle.session_rounds.proofs.crew.Crew.share_out.Given as goal

abbrev pub invariant-loop-turn : goal.invariant-loop-turn
invariant-loop-turn g l = SharedSoFar l.yielded l.busy.items l.own.items l.working
