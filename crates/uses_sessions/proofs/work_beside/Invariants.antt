use Rattle.std.specs.Prelude.{◌≡◌, length, vec_len}
use Rattle.uses_sessions.proofs.work_beside.Given as goal

abbrev pub invariant-loop-session : goal.invariant-loop-session
invariant-loop-session g l = vec_len l.sessions ≡ length l.yielded
