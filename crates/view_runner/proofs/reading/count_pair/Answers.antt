use Rattle.std.proofs.Common.{sym, subst, length, ◌≤◌, ◌+◌, List, ℕ}
use Rattle.snapshot_view.specs.Scans.{pair_shown}
use Rattle.view_runner.proofs.Scanned.{lines_have_bytes}
use Rattle.view_runner.proofs.reading.count_pair.Goals as goal

pub returns-clause-few : goal.returns-clause-few
returns-clause-few c =
    subst (λ (text : List ℕ). c.args.count + 1 ≤ length text) (sym c.in_ok-put_pair.ensures)
    (lines_have_bytes c.args.out.now c.args.count (pair_shown c.args.pair) c.requires)
