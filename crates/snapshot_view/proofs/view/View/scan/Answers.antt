-- The walk begins at the first version whose key is not before the one to begin at, and what it shows of the kept versions
-- is what the batches answer.
use Rattle.std.proofs.Common.{◌≡◌, ◌⊎◌, inr, ℕ, ◌<◌, ◌≤◌, List, None, sym, subst, arith}
use Rattle.arena_list.specs.Versions.{KeyVersion, AscendVersions, IsRestFrom}
use Rattle.snapshot_view.specs.Scans.{IsScan}
use Rattle.snapshot_view.specs.Views.{View, IsScanOf, IsView}
use Rattle.snapshot_view.proofs.Scanned.{scans_exact}
use Rattle.snapshot_view.proofs.Showing.{scan_answers}
use Rattle.snapshot_view.proofs.Holding.{held_there, one_at}
use Rattle.snapshot_view.proofs.Keeping.{number_fits}
use Rattle.snapshot_view.proofs.view.View.scan.Goals as goal

pub returns : goal.returns
returns c at held =
    let view = c.args.self.now in
    let from = c.args.from.now in
    let ranges = c.self.inside.ranges in
    let marks = c.self.inside.marks in
    let number = c.number_of-at.result in
    let is : IsView view ranges marks = subst (λ (v : View). IsView v ranges marks) c.self.view_is c.self.invariant in
    let ascend : AscendVersions view.versions = subst (λ (v : View). AscendVersions v.versions) c.self.view_is c.walk-walk.ensures.ascend in
    let begins : IsRestFrom view.versions from 18446744073709551615 c.walk_from.result =
    subst (λ (v : View). IsRestFrom v.versions from 18446744073709551615 c.walk_from.result) c.self.view_is c.walk_from.ensures in
    let scan : IsScan view.versions ranges from number c.new.result =
    subst (IsScan view.versions ranges from number) (sym c.new.ensures)
    (scans_exact view.versions c.walk_from.result ranges from number 18446744073709551615 ascend
    (number_fits view ranges marks is) begins) in
    subst (λ (n : ℕ). IsScanOf view.batches from n c.new.result)
    (one_at view.holds c.args.id.number number at c.number_of-at.ensures held)
    (scan_answers view ranges marks is number (inr (held_there view.holds c.args.id.number number c.number_of-at.ensures)) from c.new.result scan)
