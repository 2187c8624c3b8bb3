-- A version is passed over, gives its pair, or is of a key that has no value.
use Rattle.std.proofs.Common.{rules, ℕ, List, Option, Some, None, option_map, length, sym, ap, ◌∙◌, Bor}
use Rattle.arena_list.specs.Versions.{version_shown}
use Rattle.snapshot_view.specs.Scans.{pairs_left}
use Rattle.snapshot_view.proofs.Left.{left_none, left_passed, left_given}
use Rattle.snapshot_view.proofs.scan.ScanIterator.next.Goals as goal

-- the key that was met, by its bytes
abbrev met_key : Option (Bor (List ℕ)) → Option (List ℕ)
met_key met = option_map (λ (key : Bor (List ℕ)). key.now) met

pub loop-version-preserved-then-is_passed : goal.loop-version-preserved-then-is_passed
loop-version-preserved-then-is_passed c =
    let scan = c.loop-version.self-inside in
    c.loop-version.invariant ∙ ap (pairs_left scan.at scan.ranges.now (met_key scan.met)) c.in-Some.ensures.steps
    ∙ left_passed scan.at scan.ranges.now (met_key scan.met) (version_shown c.in-Some.version) c.next.new.self
    (sym c.is_passed.ensures ∙ c.if-is_passed.true)

pub returns-in-Some-open_value-clause-steps : goal.returns-in-Some-open_value-clause-steps
returns-in-Some-open_value-clause-steps c =
    let scan = c.loop-version.self-inside in
    c.loop-version.invariant
    ∙ left_given scan.at scan.ranges.now (met_key scan.met) (version_shown c.in-Some.version) c.next.new.self scan.walk
    (Some c.in-Some-open_value.value.now) c.in-Some.ensures.steps (sym c.is_passed.ensures ∙ c.if-is_passed.false) c.in-Some-open_value.ensures

pub returns-in-Some-open_value-clause-goes : goal.returns-in-Some-open_value-clause-goes
returns-in-Some-open_value-clause-goes c =
    let scan = c.loop-version.self-inside in
    let step = c.loop-version.invariant
    ∙ left_given scan.at scan.ranges.now (met_key scan.met) (version_shown c.in-Some.version) c.next.new.self scan.walk
    (Some c.in-Some-open_value.value.now) c.in-Some.ensures.steps (sym c.is_passed.ensures ∙ c.if-is_passed.false) c.in-Some-open_value.ensures in
    let shorter = ap length step in search rules

pub loop-version-preserved : goal.loop-version-preserved
loop-version-preserved c =
    let scan = c.loop-version.self-inside in
    c.loop-version.invariant
    ∙ left_given scan.at scan.ranges.now (met_key scan.met) (version_shown c.in-Some.version) c.next.new.self scan.walk
    None c.in-Some.ensures.steps (sym c.is_passed.ensures ∙ c.if-is_passed.false) c.in_default-open_value.ensures

pub returns-clause-steps : goal.returns-clause-steps
returns-clause-steps c =
    let scan = c.loop-version.self-inside in
    let left = pairs_left scan.at scan.ranges.now (met_key scan.met) in
    let none = left_none scan.at scan.ranges.now (met_key scan.met) in
    (c.loop-version.invariant ∙ ap left c.in_default.ensures.steps.0 ∙ none, ap left c.in_default.ensures.steps.1 ∙ none)
