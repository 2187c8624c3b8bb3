-- The batch that a session's seat holds is applied, marked and published.
use Rattle.std.proofs.Common.{◌≡◌, ℕ, suc, ◌+◌, ◌<◌, ◌≤◌, List, ◌∷◌, length, Option, None, Some, sym, ap, ◌∙◌, subst, arith}
use Rattle.wal_base.specs.declared.entry.Entry.{Entry}
use Rattle.wal_base.specs.Prefixes.{IsPrefixOf}
use Rattle.batch_repr.specs.declared.batch.Batch.{Batch}
use Rattle.batch_repr.specs.Batches.{count_of}
use Rattle.memtable_shards.specs.Pieces.{PiecesLeft}
use Rattle.commit_queue.specs.declared.view.View.{View}
use Rattle.commit_queue.specs.Calls.{CanMark, HoldsUnapplied, MarksHeld, ViewGoesOn, PublishesTo}
use Rattle.commit_queue.specs.Views.{marked_view}
use Rattle.commit_queue.specs.Shown.{end_of_first, IsOfSession, shown_by}
use Rattle.commit_queue.proofs.Laws.{ends_next, at_below, session_holds}
use Rattle.shard_gate.specs.Gates.{AppliesAll, OnlyApplies}
use Rattle.shard_gate.proofs.Laws.{can_mark}
use Rattle.commit_pipeline.specs.Numbering.{numbered, HoldsNumbered}
use Rattle.commit_pipeline.specs.Waits.{IsHeldEnd, PublishesOwn, PublishesHeld}

-- A batch that a session's seat holds is admitted: once it is applied, it may be marked.
pub can_mark_applied : (v v' : View) (pieces : PiecesLeft) → IsOfSession v → HoldsUnapplied v pieces → AppliesAll v v' → CanMark v'
can_mark_applied v v' pieces worker holds applied = can_mark v v' (session_holds v holds.index worker holds.holds) applied

-- The batch that was marked at this place is published once its end is.
publishes_marked : (v v1 v2 : View) (index end : ℕ) → v.seat.turn ≡ None → suc index ≤ length v.history
    → end ≡ end_of_first v.base v.history (suc index) → OnlyApplies v v1 → ViewGoesOn (marked_view v1 index) v2
    → PublishesTo (marked_view v1 index) end v2 → PublishesOwn index (shown_by v) (shown_by v2)
publishes_marked v v1 v2 index end no_turn here is_end only on published = record {
  idle = (on.held, on.turn ∙ only.turn ∙ no_turn);
  none = on.pieces;
  own = on.own ∙ own;
  there = past;
  seen = record {
    history = subst (λ (l : List Batch). IsPrefixOf l v2.history) only.history on.history;
    published = omega (arith, only.published, on.published);
    within = published.within;
    acked = omega (arith, only.acked, on.acked);
    own = on.own ∙ own;
    base = on.base ∙ only.base;
    opening = on.opening ∙ only.opening;
    pieces = on.pieces;
    turn = on.turn ∙ only.turn;
  };
}
  where
    own : index ∷ v1.seat.own ≡ index ∷ v.seat.own
    own = ap (λ (l : List ℕ). index ∷ l) only.own

    near : suc index ≤ length v1.history
    near = omega (arith, here, ap length only.history)

    same_end : end ≡ end_of_first v1.base v1.history (suc index)
    same_end = is_end ∙ ap (λ (n : ℕ). end_of_first n v.history (suc index)) (sym only.base)
        ∙ ap (λ (l : List Batch). end_of_first v1.base l (suc index)) (sym only.history)

    past : index < v2.seat.published
    past = omega (arith, published.past (suc index) near same_end)

-- Applied, marked and published, whichever batch it is.
pub publishes_held : (v v1 v2 v3 : View) (end : ℕ) → v.seat.turn ≡ None → IsHeldEnd (shown_by v) end → OnlyApplies v v1 → MarksHeld v1 v2
    → ViewGoesOn v2 v3 → PublishesTo v2 end v3 → PublishesHeld (shown_by v) (shown_by v3)
publishes_held v v1 v2 v3 end no_turn is_end only marks on published index held =
    let its = is_end index held in
    let marked : v2 ≡ marked_view v1 index = marks index (only.held ∙ held) in
    publishes_marked v v1 v3 index end no_turn its.0 its.1 only
    (subst (λ (w : View). ViewGoesOn w v3) marked on)
    (subst (λ (w : View). PublishesTo w end v3) marked published)

-- A batch that was numbered ends so many numbers after its first one.
pub numbered_end : (entries : List Entry) (first count place : ℕ) (v v' : View) → HoldsNumbered (numbered entries first) place (shown_by v) (shown_by v')
    → count ≡ count_of entries → IsHeldEnd (shown_by v') (first + count)
numbered_end entries first count place v v' is counted index held =
    subst (λ (i : ℕ). (suc i ≤ length v'.history) × (first + count ≡ end_of_first v'.base v'.history (suc i))) same (near, is_end)
  where
    same : place ≡ index
    same = let both : ◌≡◌ {A = Option ℕ} (Some place) (Some index) = sym is.held ∙ held in cc

    near : suc place ≤ length v'.history
    near = omega (arith, at_below v'.history place (numbered entries first) is.at)

    is_end : first + count ≡ end_of_first v'.base v'.history (suc place)
    is_end = omega (arith, is.follows, counted, ends_next v'.base v'.history place (numbered entries first) is.at)
