use Rattle.std.proofs.Common.{◌≤◌, ◌+◌, ℕ, List, length, refl, ap, arith}
use Rattle.std.specs.Prelude.{◌==◌}
use Rattle.std.proofs.lemmas.List.Splits.{length-slice_split}
use Rattle.std.proofs.lemmas.List.Sums.{count_by-le-length}
use Rattle.line_words.specs.Cutting.{pieces}
use Rattle.line_words.specs.Words.{lines_of}
use Rattle.line_words.proofs.pieces.Pieces.lines.Goals as goal

few_lines : (bytes : List ℕ) → length (lines_of bytes) ≤ length bytes + 1
unfolding lines_of
few_lines bytes = omega (arith, length-slice_split (λ b. b == 10) bytes, count_by-le-length (λ b. b == 10) bytes)

pub returns-clause-lines : goal.returns-clause-lines
unfolding pieces lines_of
returns-clause-lines c = refl

pub returns-clause-few : goal.returns-clause-few
returns-clause-few c = omega (arith, ap length (returns-clause-lines c), few_lines c.args.text.now, ap length c.as_slice.ensures)
