-- A number is taken, or refused, after tries that found the ring full; and why a refusal of a limit shows in what is published.
use Rattle.std.proofs.Common.{◌≡◌, ℕ, ◌≤◌, List, sym, ap, ◌∙◌, arith}
use Rattle.wal_base.specs.declared.entry.Entry.{Entry}
use Rattle.batch_repr.specs.declared.batch.Batch.{Batch}
use Rattle.batch_repr.specs.declared.limits.TheConstants.{BATCHES_MAX}
use Rattle.commit_queue.specs.declared.view.View.{View}
use Rattle.commit_queue.specs.Calls.{ViewGoesOn, PublishesTo}
use Rattle.commit_queue.specs.Shown.{end_of_first, shown_by}
use Rattle.commit_queue.proofs.Laws.{at_end_of}
use Rattle.commit_pipeline.specs.Numbering.{SeatGoesOn, HoldsNumbered, ShowsMany, ShowsExhausted}
use Rattle.commit_pipeline.specs.Waits.{StaysIdle, PublishesExhausted}
use Rattle.commit_pipeline.proofs.IsIdleDesk.{on_both, on_call}

-- ---- after other tries: what is told of a later view is told of the first one

pub numbered_later : (batch : Batch) (place : ℕ) (a b c : View) → SeatGoesOn (shown_by a) (shown_by b) → HoldsNumbered batch place (shown_by b) (shown_by c) → HoldsNumbered batch place (shown_by a) (shown_by c)
numbered_later batch place a b c on is = record {
  goes_on = on_both a b c on is.goes_on;
  held = is.held;
  at = is.at;
  behind = is.behind;
  follows = is.follows;
  within = is.within;
}

pub shows_later : (n next : ℕ) (a b c : View) → SeatGoesOn (shown_by a) (shown_by b) → ShowsMany n next (shown_by b) (shown_by c) → ShowsMany n next (shown_by a) (shown_by c)
shows_later n next a b c on shows = record {
  goes_on = on_both a b c on shows.goes_on;
  idle = shows.idle;
  many = shows.many;
  end_is = shows.end_is;
}

pub exhausted_later : (entries : List Entry) (next : ℕ) (a b c : View) → SeatGoesOn (shown_by a) (shown_by b) → ShowsExhausted entries next (shown_by b) (shown_by c)
    → ShowsExhausted entries next (shown_by a) (shown_by c)
exhausted_later entries next a b c on shows = record {
  placed = shows.placed;
  shows = shows_later shows.placed next a b c on shows.shows;
  no_fewer = omega (arith, on.published, shows.no_fewer);
  few = shows.few;
  over = shows.over;
}

-- ---- once what was shown is published

module _ (v v1 v2 : View) (n next : ℕ) (shows : ShowsMany n next (shown_by v) (shown_by v1)) (on : ViewGoesOn v1 v2) (published : PublishesTo v1 next v2) where
  -- The seat holds nothing still.
  pub shown_idle : StaysIdle (shown_by v) (shown_by v2)
  shown_idle = (on_both v v1 v2 shows.goes_on (on_call v1 v2 published.within on), on.held ∙ shows.idle)

  -- All that was shown is published.
  pub shown_past : n ≤ v2.seat.published
  shown_past = published.past n shows.many shows.end_is

  -- And it ends at this number still.
  pub shown_end : next ≡ end_of_first v2.base v2.history n
  shown_end = shows.end_is ∙ at_end_of v1.history v2.history on.history v1.base n shows.many
      ∙ ap (λ (base : ℕ). end_of_first base v2.history n) (sym on.base)

-- as many as a table takes
pub shown_all : (v v1 v2 : View) (next : ℕ) → ShowsMany BATCHES_MAX next (shown_by v) (shown_by v1) → ViewGoesOn v1 v2 → PublishesTo v1 next v2
    → v2.seat.published ≡ BATCHES_MAX
shown_all v v1 v2 next shows on published =
    omega (arith, published.within, published.few, shown_past v v1 v2 BATCHES_MAX next shows on published)

-- The numbers that are used up are those of published batches.
pub shown_exhausted : (entries : List Entry) (v v1 v2 : View) (next : ℕ) → ShowsExhausted entries next (shown_by v) (shown_by v1) → ViewGoesOn v1 v2
    → PublishesTo v1 next v2 → StaysIdle (shown_by v) (shown_by v2) × PublishesExhausted entries next (shown_by v) (shown_by v2)
shown_exhausted entries v v1 v2 next exhausted on published = (
  shown_idle v v1 v2 exhausted.placed next exhausted.shows on published,
  record {
    placed = exhausted.placed;
    no_fewer = exhausted.no_fewer;
    few = exhausted.few;
    published = shown_past v v1 v2 exhausted.placed next exhausted.shows on published;
    next_is = shown_end v v1 v2 exhausted.placed next exhausted.shows on published;
    over = exhausted.over;
  },
)
