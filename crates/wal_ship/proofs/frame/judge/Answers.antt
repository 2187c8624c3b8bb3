use Rattle.std.proofs.Common.{◌≡◌, ◌++◌, List, inl, inr, arith, ◌∙◌, sym, subst}
use Rattle.std.proofs.lemmas.List.Elements.{Contains-append_cases, Contains-append_left, Contains-append_right}
use Rattle.batch_repr.specs.declared.batch.Batch.{Batch}
use Rattle.wal_ship.specs.declared.fault.FollowFault.TheVariants as faults
use Rattle.wal_ship.specs.Following.{IsWrongNext, next_after}
use Rattle.wal_ship.specs.Following.Joins.{takes_none, there}
use Rattle.wal_ship.specs.Following.IsWrongNext.{gap, conflict}
use Rattle.wal_ship.proofs.frame.judge.Goals as goal
use Rattle.wal_ship.proofs.frame.judge.Goals.{then-has-via-then-has, then-has-via-else-has+then-has-2}

pub returns-then-count-eq0 : goal.returns-then-count-eq0
returns-then-count-eq0 c = takes_none (omega (arith, c.count.ensures, c.if-count-eq0.true))

pub returns-then-first-expected : goal.returns-then-first-expected
returns-then-first-expected c =
    let known : List Batch = c.args.local.now.batches ++ c.args.taken.now.batches in
    let next : c.next-expected.result ≡ next_after known = c.next-expected.ensures ∙ c.requires in
    subst (λ n. IsWrongNext known c.args.at c.args.batch (faults.Gap c.args.at n c.args.batch.first)) (sym next)
    (gap (omega (arith, c.count.ensures, c.if-count-eq0.false)) (omega (arith, next, c.if-first-expected.true)))

pub returns-then-has : goal.returns-then-has
returns-then-has c =
    let local : List Batch = c.args.local.now.batches in
    let taken : List Batch = c.args.taken.now.batches in
    let next : c.next-expected.result ≡ next_after (local ++ taken) = c.next-expected.ensures ∙ c.requires in
    there (omega (arith, c.count.ensures, c.if-count-eq0.false)) (omega (arith, next, c.if-first-expected.false, c.if-first-expected-2.false))
    (elim c.then-has.branch [
      | then-has-via-then-has w ↦ Contains-append_left local taken c.args.batch w.if-has.ensures
      | then-has-via-else-has+then-has-2 w ↦ Contains-append_right local taken c.args.batch w.if-has-2.ensures
    ])

pub returns : goal.returns
returns c =
    let local : List Batch = c.args.local.now.batches in
    let taken : List Batch = c.args.taken.now.batches in
    let next : c.next-expected.result ≡ next_after (local ++ taken) = c.next-expected.ensures ∙ c.requires in
    conflict (omega (arith, c.count.ensures, c.if-count-eq0.false)) (omega (arith, next, c.if-first-expected.false, c.if-first-expected-2.false))
    (λ h. elim (Contains-append_cases local taken c.args.batch h) [ inl l ↦ c.if-has.ensures l | inr t ↦ c.if-has-2.ensures t ])
