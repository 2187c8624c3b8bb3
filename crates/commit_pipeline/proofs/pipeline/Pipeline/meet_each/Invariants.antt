-- The one session has met the first of the others, and is a session still.
use Rattle.commit_queue.specs.Seats.{session_table}
use Rattle.commit_queue.specs.Shown.{session_shown}
use Rattle.commit_pipeline.specs.Standings.{IsSession, standing}
use Rattle.commit_pipeline.proofs.MeetsEach.{MeetsFirst}
use Rattle.commit_pipeline.proofs.pipeline.Pipeline.meet_each.Given as goal

abbrev pub invariant-loop-other : goal.invariant-loop-other
invariant-loop-other g l = record {
  session : IsSession g.N.PipeName.table g.N.PipeName.opening (session_table l.one-inside.desk.seat) (session_shown l.one-inside.desk.seat)
      l.one-inside.desk.own.parts l.one-inside.desk.own.amount l.one-inside.desk.dead.parts l.one-inside.desk.told.parts;
  meets : MeetsFirst l.fn.one l.initial.others
      (standing (session_shown l.one-inside.desk.seat) l.one-inside.desk.dead.amount l.one-inside.desk.told.amount) l.others l.other-index;
}
