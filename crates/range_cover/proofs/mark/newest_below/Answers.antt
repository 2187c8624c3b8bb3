-- The first one that has the key is the newest.
use Rattle.std.proofs.Common.{◌≡◌, ℕ, ◌+◌, ◌-◌, ◌<◌, length, refl, subst, arith}
use Rattle.range_cover.proofs.Scan.{NoneHas, scan_some}
use Rattle.range_cover.proofs.mark.newest_below.Goals as goal

pub returns-then-has_key : goal.returns-then-has_key
returns-then-has_key c =
    let marks = c.args.marks.now in
    let at = c.loop-place.place - 1 in
    let end = c.count_below-place.result in
    let up : c.loop-place.place ≡ at + 1 = omega (arith, c.loop-place-test.true) in
    let less : at < end = omega (arith, c.loop-place-test.true, c.loop-place.invariant.within) in
    let within : at < length marks = omega (arith, less, c.count_below-place.ensures.within) in
    scan_some marks c.args.key.now c.args.below at end c.index-marks-place.result c.requires.order c.count_below-place.ensures.boundary
    (subst (λ (n : ℕ). NoneHas marks c.args.key.now n end) up c.loop-place.invariant.none) less within c.index-marks-place.is (c.if-has_key.ensures.0 refl)
