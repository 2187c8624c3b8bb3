-- The entry in the middle tells on which side of the cut it stands.
use Rattle.std.proofs.Common.{◌≡◌, ℕ, ◌+◌, ◌-◌, ◌/◌, ◌<◌, length, sym, subst, arith, slice_index}
use Rattle.std.proofs.lemmas.Bool.{iff_false}
use Rattle.std.proofs.lemmas.List.Elements.{Contains-get_or}
use Rattle.arena_list.specs.Versions.{GoesBefore}
use Rattle.arena_list.specs.Nodes.{version_at}
use Rattle.arena_list.specs.Tops.{places_of}
use Rattle.arena_list.proofs.Tops.{place_at, places_count, guide_there, guide_lowest, top_cut}
use Rattle.arena_list.proofs.Fronts.{front_has}
use Rattle.arena_list.proofs.top.count_before.Goals as goal

pub is_before-requires-clause-node : goal.is_before-requires-clause-node
is_before-requires-clause-node c =
    let top = c.args.top.now in
    let middle = c.loop-low.low + (c.loop-low.high - c.loop-low.low) / 2 in
    let less : middle < length top = omega (arith, c.loop-low-test.true, c.loop-low.invariant.within) in
    guide_there c.args.nodes.now top c.requires.linked c.requires.top _ (Contains-get_or top middle _ less)

pub is_before-requires-clause-told : goal.is_before-requires-clause-told
is_before-requires-clause-told c =
    let top = c.args.top.now in
    let middle = c.loop-low.low + (c.loop-low.high - c.loop-low.low) / 2 in
    let less : middle < length top = omega (arith, c.loop-low-test.true, c.loop-low.invariant.within) in
    c.requires.told _ (guide_lowest c.args.nodes.now top c.requires.linked c.requires.top _ (Contains-get_or top middle _ less))

pub is_before-requires-clause-front : goal.is_before-requires-clause-front
is_before-requires-clause-front c =
    let top = c.args.top.now in
    let middle = c.loop-low.low + (c.loop-low.high - c.loop-low.low) / 2 in
    let less : middle < length top = omega (arith, c.loop-low-test.true, c.loop-low.invariant.within) in
    front_has c.args.nodes.now c.requires.front _
    (guide_lowest c.args.nodes.now top c.requires.linked c.requires.top _ (Contains-get_or top middle _ less))

pub loop-low-preserved-then-is_before : goal.loop-low-preserved-then-is_before
loop-low-preserved-then-is_before c =
    let top = c.args.top.now in
    let nodes = c.args.nodes.now in
    let sought = c.args.sought.now in
    let middle = c.loop-low.low + (c.loop-low.high - c.loop-low.low) / 2 in
    let less : middle < length top = omega (arith, c.loop-low-test.true, c.loop-low.invariant.within) in
    let same : middle ≡ middle + 1 - 1 = omega arith in record {
      ordered = omega (arith, c.loop-low-test.true);
      within = c.loop-low.invariant.within;
      early = λ _. subst (λ (k : ℕ). GoesBefore (version_at nodes (slice_index (places_of top) k)) sought.key.now sought.number) same
          (subst (λ (p : ℕ). GoesBefore (version_at nodes p) sought.key.now sought.number) (sym (place_at top middle _ less))
          (c.is_before.ensures.0 c.if-is_before.true));
      late = c.loop-low.invariant.late;
    }

pub loop-low-preserved : goal.loop-low-preserved
loop-low-preserved c =
    let top = c.args.top.now in
    let nodes = c.args.nodes.now in
    let sought = c.args.sought.now in
    let middle = c.loop-low.low + (c.loop-low.high - c.loop-low.low) / 2 in
    let less : middle < length top = omega (arith, c.loop-low-test.true, c.loop-low.invariant.within) in record {
      ordered = omega arith;
      within = omega (arith, less);
      early = c.loop-low.invariant.early;
      late = λ _ g. iff_false c.is_before.ensures c.if-is_before.false
          (subst (λ (p : ℕ). GoesBefore (version_at nodes p) sought.key.now sought.number) (place_at top middle _ less) g);
    }

pub returns : goal.returns
returns c =
    let top = c.args.top.now in
    let nodes = c.args.nodes.now in
    let sought = c.args.sought.now in
    let inv = c.loop-low.invariant in
    let met : c.loop-low.low ≡ c.loop-low.high = omega (arith, inv.ordered, c.loop-low-test.false) in
    top_cut nodes (places_of top) sought.key.now sought.number c.loop-low.low c.requires.top.places.ascends
    (omega (arith, inv.ordered, inv.within, places_count top)) inv.early
    (λ less g. inv.late (omega (arith, less, met, places_count top))
    (subst (λ (k : ℕ). GoesBefore (version_at nodes (slice_index (places_of top) k)) sought.key.now sought.number) met g))
