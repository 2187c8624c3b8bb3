use Rattle.std.specs.Prelude.{◌≡◌, length, vec_len}
use Rattle.uses_sessions.proofs.with_keys.Given as goal

abbrev pub invariant-loop-session : goal.invariant-loop-session
invariant-loop-session g l = vec_len l.clients ≡ length l.yielded
