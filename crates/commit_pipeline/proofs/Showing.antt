-- What a session's seat has seen once the producer's seat has shown it all batches.
use Rattle.std.proofs.Common.{◌≡◌, ℕ, ◌+◌, ◌<◌, ◌≤◌, List, length, None, ⊎_elim, le_refl, refl, ap, sym, ◌∙◌, subst, arith}
use Rattle.std.proofs.lemmas.Bool.{cases_lt}
use Rattle.wal_base.specs.declared.entry.Entry.{Entry}
use Rattle.wal_base.proofs.Laws.{longer_prefix}
use Rattle.batch_repr.specs.declared.limits.TheConstants.{NUMBER_MAX, BATCHES_MAX}
use Rattle.batch_repr.specs.Batches.{count_of}
use Rattle.commit_queue.specs.declared.view.View.{View}
use Rattle.commit_queue.specs.Tells.{SeesVisible}
use Rattle.commit_queue.specs.Calls.{AwaitsBatch, TakesIn}
use Rattle.commit_queue.specs.Shown.{end_of_first, told_view, shown_by}
use Rattle.commit_queue.proofs.Laws.{at_end_of, seen_within, sees_goes_on, holds_taken_in}
use Rattle.commit_pipeline.specs.Numbering.{SeatGoesOn, ShowsMany, ShowsExhausted}
use Rattle.commit_pipeline.proofs.Enters.{seat_taken_in}
use Rattle.commit_pipeline.proofs.IsIdleDesk.{on_both, on_call}

-- the visible number was read
seat_saw : (v v' : View) (r : ℕ) → SeesVisible v r v' → SeatGoesOn (shown_by v) (shown_by v')
seat_saw v v' r sees = on_call v v' (seen_within v v' r sees) (sees_goes_on v v' r sees)

-- All batches that the producer's seat has placed were shown.
pub shows_all : (p v v' : View) (next placed : ℕ) → AwaitsBatch p next placed → v.seat.held ≡ None → TakesIn v (told_view p) v'
    → ShowsMany placed next (shown_by v) (shown_by v')
shows_all p v v' next placed awaits idle t = record {
  goes_on = seat_taken_in v (told_view p) v' refl refl t;
  idle = holds_taken_in v (told_view p) v' t idle;
  many = omega (arith, awaits.placed_is, longer_prefix p.history v'.history t.has_both);
  end_is = awaits.next_is ∙ at_end_of p.history v'.history t.has_both p.base (length p.history) (le_refl (length p.history))
      ∙ ap (end_of_first p.base v'.history) awaits.placed_is
      ∙ ap (λ (n : ℕ). end_of_first n v'.history placed) (t.same_base ∙ sym t.base);
}

-- The visible number was read, and is not above the end of n batches that the seat has seen later: no more than n were published.
no_more_published : (v v1 v' : View) (r next n : ℕ) → SeesVisible v r v1 → ShowsMany n next (shown_by v1) (shown_by v') → r ≤ next → v1.seat.published ≤ n
no_more_published v v1 v' r next n sees shows low = ⊎_elim
    (λ (less : length v1.history < n). omega (arith, less, seen_within v v1 r sees))
    (λ (seen : n ≤ length v1.history).
    let here : end_of_first v'.base v'.history n ≡ end_of_first v.base sees.history n =
    sym (at_end_of v1.history v'.history shows.goes_on.history v'.base n seen)
    ∙ ap (λ (b : ℕ). end_of_first b v1.history n) (shows.goes_on.base ∙ ap (λ (x : View). x.base) sees.view)
    ∙ ap (λ (x : View). end_of_first v.base x.history n) sees.view in
    let all : n ≤ length sees.history = subst (λ (x : View). n ≤ length x.history) sees.view seen in
    subst (λ (x : View). x.seat.published ≤ n) (sym sees.view) (sees.tops n all (omega (arith, low, shows.end_is, here))))
    (cases_lt (length v1.history) n)

-- The numbers are used up behind all that was shown.
pub shows_exhausted : (entries : List Entry) (v v1 v' : View) (r next n : ℕ) → SeesVisible v r v1 → r ≤ next → ShowsMany n next (shown_by v1) (shown_by v')
    → n < BATCHES_MAX → NUMBER_MAX < next + count_of entries → ShowsExhausted entries next (shown_by v) (shown_by v')
shows_exhausted entries v v1 v' r next n sees low shows few over = record {
  placed = n;
  shows = record {
    goes_on = on_both v v1 v' (seat_saw v v1 r sees) shows.goes_on;
    idle = shows.idle;
    many = shows.many;
    end_is = shows.end_is;
  };
  no_fewer = omega (arith, (seat_saw v v1 r sees).published, no_more_published v v1 v' r next n sees shows low);
  few = few;
  over = over;
}
