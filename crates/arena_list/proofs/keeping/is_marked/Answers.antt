-- The first mark above the number is the one to look at.
use Rattle.std.proofs.Common.{rules, ◌≡◌, ℕ, true, false, leb, Option, refl, sym, subst, arith, slice_index}
use Rattle.std.specs.List.Sorted.{IsPartitionPoint}
use Rattle.std.proofs.lemmas.Bool.{leb-true, le-leb}
use Rattle.std.proofs.lemmas.List.Sorted.{IsPartitionPoint-from_clause, IsPartitionedBy-leb}
use Rattle.arena_list.specs.Keeping.{IsMarkUpTo}
use Rattle.arena_list.proofs.Marking.{none_between, one_between, between_here}
use Rattle.arena_list.proofs.keeping.is_marked.Goals as goal

pub returns-then-place-marks : goal.returns-then-place-marks
returns-then-place-marks c =
    let marks = c.args.marks.now in
    let point : IsPartitionPoint (λ y. leb y c.args.number ≡ true) (λ y. leb y c.args.number ≡ false) marks c.partition_point-place.result =
    IsPartitionPoint-from_clause (λ y. leb y c.args.number) _ _ c.partition_point-place.ensures.partitioned
    (IsPartitionedBy-leb (λ x. x) marks c.args.number c.requires) (λ a r q k. search rules) in (
      λ e. absurd cc,
      λ between. absurd (none_between marks c.args.number c.partition_point-place.result c.partition_point-place.ensures.bound c.requires point
          c.args.most c.if-place-marks.true between),
    )

pub returns-in-None : goal.returns-in-None
returns-in-None c =
    let marks = c.args.marks.now in
    let point : IsPartitionPoint (λ y. leb y c.args.number ≡ true) (λ y. leb y c.args.number ≡ false) marks c.partition_point-place.result =
    IsPartitionPoint-from_clause (λ y. leb y c.args.number) _ _ c.partition_point-place.ensures.partitioned
    (IsPartitionedBy-leb (λ x. x) marks c.args.number c.requires) (λ a r q k. search rules) in (
      λ _. one_between marks c.args.number c.partition_point-place.result c.partition_point-place.ensures.bound c.requires point
          c.args.most (omega (arith, c.if-place-marks.false))
          (subst (λ (o : Option ℕ). IsMarkUpTo o (slice_index marks c.partition_point-place.result)) (sym c.in-None.is) tt),
      λ _. refl,
    )

pub returns-in-Some : goal.returns-in-Some
returns-in-Some c =
    let marks = c.args.marks.now in
    let place = c.partition_point-place.result in
    let point : IsPartitionPoint (λ y. leb y c.args.number ≡ true) (λ y. leb y c.args.number ≡ false) marks place =
    IsPartitionPoint-from_clause (λ y. leb y c.args.number) _ _ c.partition_point-place.ensures.partitioned
    (IsPartitionedBy-leb (λ x. x) marks c.args.number c.requires) (λ a r q k. search rules) in (
      λ e. one_between marks c.args.number place c.partition_point-place.ensures.bound c.requires point
          c.args.most (omega (arith, c.if-place-marks.false))
          (subst (λ (o : Option ℕ). IsMarkUpTo o (slice_index marks place)) (sym c.in-Some.is) (leb-true (slice_index marks place) c.in-Some.most e)),
      λ between. le-leb (slice_index marks place) c.in-Some.most
          (subst (λ (o : Option ℕ). IsMarkUpTo o (slice_index marks place)) c.in-Some.is
          (between_here marks c.args.number place c.partition_point-place.ensures.bound c.requires point c.args.most between)),
    )
