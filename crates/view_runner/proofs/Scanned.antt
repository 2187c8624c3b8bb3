-- What a scan has written so far.
use Rattle.std.proofs.Common.{ℕ, ◌+◌, ◌≤◌, List, ◌++◌, length, arith, length-append}
use Rattle.snapshot_view.specs.Scans.{KeyValue}
use Rattle.view_runner.specs.Texts.{pair_line}

-- a line has a byte at least
pub lines_have_bytes : (text : List ℕ) (count : ℕ) (pair : KeyValue) → count ≤ length text → count + 1 ≤ length (text ++ pair_line pair)
unfolding pair_line
lines_have_bytes text count pair few = simp length-append (omega arith)
