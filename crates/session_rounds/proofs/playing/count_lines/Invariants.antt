use Rattle.std.specs.Prelude.{◌≡◌, ℕ, length, take, slice_index, vec_len}
use Rattle.session_replies.specs.Legal.{lines_of_session}
use Rattle.session_rounds.proofs.playing.count_lines.Given as goal

abbrev pub invariant-loop-line : goal.invariant-loop-line
invariant-loop-line l = record {
  all : vec_len l.counts ≡ l.sessions;
  each : (i : ℕ) → slice_index l.counts.items i ≡ length (lines_of_session i (take l.line-index l.lines));
}
