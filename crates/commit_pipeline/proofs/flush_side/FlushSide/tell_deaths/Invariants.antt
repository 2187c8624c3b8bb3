-- The first of the sessions are told, and the journal is what it was.
use Rattle.std.proofs.Common.{◌≡◌}
use Rattle.commit_pipeline.proofs.HearDeaths.{FirstHear}
use Rattle.commit_pipeline.proofs.flush_side.FlushSide.tell_deaths.Given as goal

abbrev pub invariant-loop-session : goal.invariant-loop-session
invariant-loop-session g l = record {
  same : l.self ≡ l.initial.self;
  first : FirstHear l.initial.self.journal.state.dead l.initial.sessions l.sessions l.session-index;
}
