-- The version at the place is kept where a mark is between it and the next newer one of its key.
use Rattle.std.proofs.Common.{◌<◌, ℕ, ◌+◌, [], ◌∷◌, None, length, refl, sym, subst, arith, slice_index_or}
use Rattle.std.proofs.lemmas.Bool.{iff_false}
use Rattle.arena_list.proofs.Levels.{read_at, read_next}
use Rattle.arena_list.proofs.Arenas.{zeros_at}
use Rattle.arena_list.proofs.Sweeping.{Swept, swept_first, swept_last, place_within, sweep_within, follows_within, fronts_here, step_out_front, step_kept, step_out, step_less, step_out_less}
use Rattle.arena_list.proofs.keeping.sweep.Goals as goal

pub loop-place-init : goal.loop-place-init
loop-place-init c =
    let nodes = c.args.nodes.now in
    let some : 0 < length nodes = omega (arith, c.requires.arena.all) in
    record {
      swept = subst (λ (p : ℕ). Swept nodes c.args.free.now c.args.marks.now nodes c.args.free.now (0 ∷ 0 ∷ 0 ∷ 0 ∷ 0 ∷ 0 ∷ 0 ∷ 0 ∷ 0 ∷ 0 ∷ 0 ∷ 0 ∷ []) p None 0)
          (sym (read_next nodes 0 0 c.index-nodes-0.result some))
          (swept_first nodes c.args.free.now c.args.marks.now (0 ∷ 0 ∷ 0 ∷ 0 ∷ 0 ∷ 0 ∷ 0 ∷ 0 ∷ 0 ∷ 0 ∷ 0 ∷ 0 ∷ []) c.requires.arena (zeros_at 12));
      front = c.requires.front;
    }

pub bounds-nodes-place : goal.bounds-nodes-place
bounds-nodes-place c =
    place_within c.args.nodes.now c.args.free.now c.args.marks.now c.loop-place.nodes c.loop-place.free c.loop-place.lasts c.loop-place.place c.loop-place.newer
    c.loop-place.removed c.requires.arena.linked c.loop-place.invariant.swept c.loop-place-test.true

pub newer_than-newer-requires-clause-place : goal.newer_than-newer-requires-clause-place
newer_than-newer-requires-clause-place c =
    place_within c.args.nodes.now c.args.free.now c.args.marks.now c.loop-place.nodes c.loop-place.free c.loop-place.lasts c.loop-place.place c.loop-place.newer
    c.loop-place.removed c.requires.arena.linked c.loop-place.invariant.swept c.loop-place-test.true

pub newer_than-newer-requires-clause-next : goal.newer_than-newer-requires-clause-next
newer_than-newer-requires-clause-next c = follows_within c.args.nodes.now c.args.free.now c.args.marks.now c.loop-place.nodes c.loop-place.free c.loop-place.lasts c.loop-place.place c.loop-place.newer
    c.loop-place.removed c.requires.arena.linked c.loop-place.invariant.swept c.loop-place-test.true
    (slice_index_or c.loop-place.nodes c.loop-place.place c.index-nodes-place.result)
    (read_at c.loop-place.nodes c.loop-place.place c.index-nodes-place.result (place_within c.args.nodes.now c.args.free.now c.args.marks.now c.loop-place.nodes c.loop-place.free c.loop-place.lasts c.loop-place.place c.loop-place.newer
    c.loop-place.removed c.requires.arena.linked c.loop-place.invariant.swept c.loop-place-test.true))

pub newer_than-newer-requires-clause-front : goal.newer_than-newer-requires-clause-front
newer_than-newer-requires-clause-front c = fronts_here c.args.nodes.now c.args.free.now c.args.marks.now c.loop-place.nodes c.loop-place.free c.loop-place.lasts c.loop-place.place c.loop-place.newer
    c.loop-place.removed c.requires.arena.linked c.loop-place.invariant.swept c.loop-place-test.true
    (slice_index_or c.loop-place.nodes c.loop-place.place c.index-nodes-place.result)
    (read_at c.loop-place.nodes c.loop-place.place c.index-nodes-place.result (place_within c.args.nodes.now c.args.free.now c.args.marks.now c.loop-place.nodes c.loop-place.free c.loop-place.lasts c.loop-place.place c.loop-place.newer
    c.loop-place.removed c.requires.arena.linked c.loop-place.invariant.swept c.loop-place-test.true)) c.loop-place.invariant.front

pub step_over-requires : goal.step_over-requires
step_over-requires c = sweep_within c.args.nodes.now c.args.free.now c.args.marks.now c.loop-place.nodes c.loop-place.free c.loop-place.lasts c.loop-place.place c.loop-place.newer
    c.loop-place.removed c.requires.arena.linked c.loop-place.invariant.swept c.loop-place-test.true

pub take_out-requires-clause-within : goal.take_out-requires-clause-within
take_out-requires-clause-within c = sweep_within c.args.nodes.now c.args.free.now c.args.marks.now c.loop-place.nodes c.loop-place.free c.loop-place.lasts c.loop-place.place c.loop-place.newer
    c.loop-place.removed c.requires.arena.linked c.loop-place.invariant.swept c.loop-place-test.true

pub take_out-requires-clause-place : goal.take_out-requires-clause-place
take_out-requires-clause-place c = place_within c.args.nodes.now c.args.free.now c.args.marks.now c.loop-place.nodes c.loop-place.free c.loop-place.lasts c.loop-place.place c.loop-place.newer
    c.loop-place.removed c.requires.arena.linked c.loop-place.invariant.swept c.loop-place-test.true

pub loop-place-smaller-then-wanted : goal.loop-place-smaller-then-wanted
loop-place-smaller-then-wanted c = step_less c.args.nodes.now c.args.free.now c.args.marks.now c.loop-place.nodes c.loop-place.free c.loop-place.lasts c.loop-place.place c.loop-place.newer
    c.loop-place.removed c.requires.arena.linked c.loop-place.invariant.swept c.loop-place-test.true (slice_index_or c.loop-place.nodes c.loop-place.place c.index-nodes-place.result)
    (read_at c.loop-place.nodes c.loop-place.place c.index-nodes-place.result (place_within c.args.nodes.now c.args.free.now c.args.marks.now c.loop-place.nodes c.loop-place.free c.loop-place.lasts c.loop-place.place c.loop-place.newer
    c.loop-place.removed c.requires.arena.linked c.loop-place.invariant.swept c.loop-place-test.true))

pub loop-place-preserved-then-wanted : goal.loop-place-preserved-then-wanted
loop-place-preserved-then-wanted c = record {
  swept = step_kept c.args.nodes.now c.args.free.now c.args.marks.now c.loop-place.nodes c.loop-place.free c.loop-place.lasts c.loop-place.place c.loop-place.newer
      c.loop-place.removed c.requires.arena.linked c.loop-place.invariant.swept c.loop-place-test.true (slice_index_or c.loop-place.nodes c.loop-place.place c.index-nodes-place.result)
      (read_at c.loop-place.nodes c.loop-place.place c.index-nodes-place.result (place_within c.args.nodes.now c.args.free.now c.args.marks.now c.loop-place.nodes c.loop-place.free c.loop-place.lasts c.loop-place.place c.loop-place.newer
      c.loop-place.removed c.requires.arena.linked c.loop-place.invariant.swept c.loop-place-test.true)) (c.is_marked-wanted.ensures.0 c.if-wanted.true) c.step_over.new.lasts c.step_over.ensures
      c.newer_than-newer.result c.newer_than-newer.ensures;
  front = c.loop-place.invariant.front;
}

pub loop-place-smaller : goal.loop-place-smaller
loop-place-smaller c = step_out_less c.args.nodes.now c.args.free.now c.args.marks.now c.loop-place.nodes c.loop-place.free c.loop-place.lasts c.loop-place.place c.loop-place.newer
    c.loop-place.removed c.requires.arena.linked c.loop-place.invariant.swept c.loop-place-test.true (slice_index_or c.loop-place.nodes c.loop-place.place c.index-nodes-place.result)
    (read_at c.loop-place.nodes c.loop-place.place c.index-nodes-place.result (place_within c.args.nodes.now c.args.free.now c.args.marks.now c.loop-place.nodes c.loop-place.free c.loop-place.lasts c.loop-place.place c.loop-place.newer
    c.loop-place.removed c.requires.arena.linked c.loop-place.invariant.swept c.loop-place-test.true)) c.take_out.new.nodes c.take_out.ensures.out

pub loop-place-preserved : goal.loop-place-preserved
loop-place-preserved c = record {
  swept = step_out c.args.nodes.now c.args.free.now c.args.marks.now c.loop-place.nodes c.loop-place.free c.loop-place.lasts c.loop-place.place c.loop-place.newer
      c.loop-place.removed c.requires.arena.linked c.loop-place.invariant.swept c.loop-place-test.true (slice_index_or c.loop-place.nodes c.loop-place.place c.index-nodes-place.result)
      (read_at c.loop-place.nodes c.loop-place.place c.index-nodes-place.result (place_within c.args.nodes.now c.args.free.now c.args.marks.now c.loop-place.nodes c.loop-place.free c.loop-place.lasts c.loop-place.place c.loop-place.newer
      c.loop-place.removed c.requires.arena.linked c.loop-place.invariant.swept c.loop-place-test.true)) (iff_false c.is_marked-wanted.ensures c.if-wanted.false) c.take_out.new.nodes
      (record { first = c.loop-place.place; count = c.loop-place.free.count + 1 }) c.take_out.ensures.out refl refl
      c.newer_than-newer.result c.newer_than-newer.ensures;
  front = step_out_front c.args.nodes.now c.args.free.now c.args.marks.now c.loop-place.nodes c.loop-place.free c.loop-place.lasts c.loop-place.place c.loop-place.newer
      c.loop-place.removed c.requires.arena.linked c.loop-place.invariant.swept c.loop-place-test.true
      (slice_index_or c.loop-place.nodes c.loop-place.place c.index-nodes-place.result)
      (read_at c.loop-place.nodes c.loop-place.place c.index-nodes-place.result (place_within c.args.nodes.now c.args.free.now c.args.marks.now c.loop-place.nodes c.loop-place.free c.loop-place.lasts c.loop-place.place c.loop-place.newer
      c.loop-place.removed c.requires.arena.linked c.loop-place.invariant.swept c.loop-place-test.true)) c.take_out.new.nodes c.take_out.ensures.out c.loop-place.invariant.front;
}

pub returns-clause-swept : goal.returns-clause-swept
returns-clause-swept c = swept_last c.args.nodes.now c.args.free.now c.args.marks.now c.loop-place.nodes c.loop-place.free c.loop-place.lasts c.loop-place.place c.loop-place.newer
    c.loop-place.removed c.requires.arena.linked c.loop-place.invariant.swept c.loop-place-test.false
