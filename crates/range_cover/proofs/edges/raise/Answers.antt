-- Edge by edge from the start to the end, with one in hand.
use Rattle.std.proofs.Common.{◌≡◌, ℕ, ◌-◌, ◌^◌, ◌<◌, ◌≤◌, max, List, None, sym, ap, ◌∙◌, subst, arith}
use Rattle.arena_list.specs.Arena.{Arena}
use Rattle.arena_list.specs.Versions.{KeyVersion, version_with, HoldsVersion, Adds}
use Rattle.range_cover.specs.declared.edges.Edge.{Edge}
use Rattle.range_cover.specs.Marks.{StandsBefore}
use Rattle.range_cover.specs.Edges.{IsUpTo, top_of}
use Rattle.range_cover.specs.Steps.{HandsEdgeOver, HandsNext, IsMarkHeld, count_behind}
use Rattle.range_cover.proofs.Telling.{cover_tops}
use Rattle.range_cover.proofs.Held.{held_begins, held_raised, held_dropped, held_ends, held_absent, next_fits, fewer_raised, fewer_dropped}
use Rattle.range_cover.proofs.edges.raise.Goals as goal

-- what is handed over between two keys is so between two that are the same
hands_same : (edges mid : List KeyVersion) (key key' end end' next : List ℕ) (top : ℕ) → key' ≡ key → end' ≡ end
    → HandsNext edges key' end' next top mid → HandsNext edges key end next top mid
hands_same edges mid key key' end end' next top same_key same_end hands =
    subst (λ (k : List ℕ × List ℕ). HandsNext edges k.0 k.1 next top mid) (λ i. (same_key i, same_end i)) hands

pub take_at-held-requires-clause-tops : goal.take_at-held-requires-clause-tops
take_at-held-requires-clause-tops c = cover_tops c.args.edges.now.versions c.requires.covers.0 c.requires.covers.1

pub loop-next-init : goal.loop-next-init
loop-next-init c =
    let first = c.args.edges.now.versions in
    let mark = c.args.mark.now in
    let new = c.take_at-held.new.edges.versions in
    let taken : HandsEdgeOver first mark.start c.take_at-held.result.top new =
    subst (λ (k : List ℕ). HandsEdgeOver first k c.take_at-held.result.top new) c.as_slice.ensures c.take_at-held.ensures.taken in
    let up : c.max.result ≡ max c.take_at-held.result.top (top_of mark.number) = c.max.ensures ∙ ap (max c.take_at-held.result.top) c.top_of-top.ensures in
    let tops = cover_tops first c.requires.covers.0 c.requires.covers.1 taken.held.0 taken.held.1 in record {
      held = subst (λ (k : List ℕ). IsMarkHeld first new k c.max.result mark) (sym (c.take_at-held.ensures.key ∙ c.as_slice.ensures))
          (held_begins first new mark c.take_at-held.result.top c.max.result c.requires.some c.requires.covers c.requires.end taken up (omega (arith, up)));
      free = omega (arith, c.take_at-held.ensures.free);
      ascend = c.take_at-held.ensures.ascend;
      fits = omega (arith, tops.1, taken.held.2.1, up);
    }

pub put_back-requires-clause-absent : goal.put_back-requires-clause-absent
put_back-requires-clause-absent c =
    let edges = c.loop-next.edges.versions in
    let held = c.loop-next.held in
    let mark = c.args.mark.now in
    let mid = c.take_next.new.edges.versions in
    let hands = hands_same edges mid held.key _ mark.end _ c.in-Some.next.key c.in-Some.next.top c.as_slice-in-loop-next.ensures
    c.as_slice-in-loop-next-2.ensures c.in-Some.ensures.taken in
    subst (λ (e : Edge). HoldsVersion mid e.key e.top → ⊥) (sym c.replace.ensures.value)
    (held_absent c.args.edges.now.versions edges held.key held.top mark c.loop-next.invariant.held c.requires.covers c.in-Some.next.key c.in-Some.next.top mid hands)

pub loop-next-smaller-then-raised-held : goal.loop-next-smaller-then-raised-held
loop-next-smaller-then-raised-held c =
    let edges = c.loop-next.edges.versions in
    let held = c.loop-next.held in
    let mark = c.args.mark.now in
    let mid = c.take_next.new.edges.versions in
    let new = c.put_back.new.edges.versions in
    let hands = hands_same edges mid held.key _ mark.end _ c.in-Some.next.key c.in-Some.next.top c.as_slice-in-loop-next.ensures
    c.as_slice-in-loop-next-2.ensures c.in-Some.ensures.taken in
    subst (λ (e : Edge). count_behind e.key new < count_behind held.key edges) (sym c.replace.ensures.after)
    (fewer_raised c.args.edges.now.versions edges held.key held.top mark c.loop-next.invariant.held c.requires.covers c.in-Some.next.key c.in-Some.next.top mid
    hands new c.put_back.ensures.ascend
    (subst (λ (e : Edge). Adds mid (version_with e.key e.top None) new) c.replace.ensures.value c.put_back.ensures.added))

pub loop-next-preserved-then-raised-held : goal.loop-next-preserved-then-raised-held
loop-next-preserved-then-raised-held c =
    let first = c.args.edges.now.versions in
    let edges = c.loop-next.edges.versions in
    let held = c.loop-next.held in
    let mark = c.args.mark.now in
    let mid = c.take_next.new.edges.versions in
    let new = c.put_back.new.edges.versions in
    let hands = hands_same edges mid held.key _ mark.end _ c.in-Some.next.key c.in-Some.next.top c.as_slice-in-loop-next.ensures
    c.as_slice-in-loop-next-2.ensures c.in-Some.ensures.taken in
    let up : c.max-raised.result ≡ max c.in-Some.next.top (top_of mark.number) = c.max-raised.ensures ∙ ap (max c.in-Some.next.top) c.top_of-top.ensures in
    let next_fits =
    next_fits first edges held.key held.top mark c.loop-next.invariant.held c.requires.covers c.in-Some.next.key c.in-Some.next.top mid hands in record {
      held = subst (λ (e : Edge). IsMarkHeld first new e.key e.top mark) (sym c.replace.ensures.after)
          (held_raised first edges held.key held.top mark c.loop-next.invariant.held c.requires.covers c.in-Some.next.key c.in-Some.next.top mid hands new
          c.max-raised.result up (omega (arith, up)) c.loop-next.invariant.fits
          (subst (λ (e : Edge). Adds mid (version_with e.key e.top None) new) c.replace.ensures.value c.put_back.ensures.added));
      free = omega (arith, c.loop-next.invariant.free, c.in-Some.ensures.free, c.put_back.ensures.free);
      ascend = c.put_back.ensures.ascend;
      fits = subst (λ (e : Edge). e.top ≤ 2 ^ 64 - 1) (sym c.replace.ensures.after) (omega (arith, up, next_fits));
    }

pub loop-next-smaller : goal.loop-next-smaller
loop-next-smaller c =
    let edges = c.loop-next.edges.versions in
    let held = c.loop-next.held in
    let mark = c.args.mark.now in
    let mid = c.take_next.new.edges.versions in
    let hands = hands_same edges mid held.key _ mark.end _ c.in-Some.next.key c.in-Some.next.top c.as_slice-in-loop-next.ensures
    c.as_slice-in-loop-next-2.ensures c.in-Some.ensures.taken in
    fewer_dropped c.args.edges.now.versions edges held.key held.top mark c.loop-next.invariant.held c.requires.covers c.in-Some.next.key c.in-Some.next.top mid
    hands c.in-Some.ensures.ascend

pub loop-next-preserved : goal.loop-next-preserved
loop-next-preserved c =
    let edges = c.loop-next.edges.versions in
    let held = c.loop-next.held in
    let mark = c.args.mark.now in
    let mid = c.take_next.new.edges.versions in
    let hands = hands_same edges mid held.key _ mark.end _ c.in-Some.next.key c.in-Some.next.top c.as_slice-in-loop-next.ensures
    c.as_slice-in-loop-next-2.ensures c.in-Some.ensures.taken in
    let up : c.max-raised.result ≡ max c.in-Some.next.top (top_of mark.number) = c.max-raised.ensures ∙ ap (max c.in-Some.next.top) c.top_of-top.ensures in record {
      held = held_dropped c.args.edges.now.versions edges held.key held.top mark c.loop-next.invariant.held c.requires.covers c.in-Some.next.key
          c.in-Some.next.top mid hands (omega (arith, up, c.if-raised-held.false));
      free = omega (arith, c.loop-next.invariant.free, c.in-Some.ensures.free);
      ascend = c.in-Some.ensures.ascend;
      fits = c.loop-next.invariant.fits;
    }

pub returns : goal.returns
returns c =
    let edges = c.loop-next.edges.versions in
    let held = c.loop-next.held in
    let mark = c.args.mark.now in
    let new = c.put_back-2.new.edges.versions in
    held_ends c.args.edges.now.versions edges held.key held.top mark c.loop-next.invariant.held c.requires.covers new
    (λ other h less. subst (λ (k : List ℕ). IsUpTo k other.key) c.as_slice-in-loop-next-2.ensures
    (c.in_default.ensures.none other h (subst (λ (k : List ℕ). StandsBefore k other.key) (sym c.as_slice-in-loop-next.ensures) less)))
    (subst (λ (a : Arena). Adds a.versions (version_with held.key held.top None) new) c.in_default.ensures.same c.put_back-2.ensures.added)
