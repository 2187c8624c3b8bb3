-- A batch that the producer's seat places, admits and hands over is the last one in the ring, and the seat that takes it in holds it.
use Rattle.std.proofs.Common.{◌≡◌, ℕ, ◌+◌, ◌≤◌, List, [], ◌∷◌, ◌++◌, length, max, Some, None, refl, ap, sym, ◌∙◌, subst, arith}
use Rattle.std.proofs.lemmas.List.{append-nil}
use mathlib.Core.Option.{some}
use lib.ListN.{get_elem?}
use Rattle.wal_base.specs.Prefixes.{IsPrefixOf}
use Rattle.wal_base.proofs.Laws.{prefix_then, at_prefix}
use Rattle.batch_repr.specs.declared.batch.Batch.{Batch}
use Rattle.batch_repr.specs.declared.limits.TheConstants.{NUMBER_MAX}
use Rattle.batch_repr.specs.Batches.{end_of}
use Rattle.commit_queue.specs.declared.view.View.{View}
use Rattle.commit_queue.specs.Views.{placed_view, admitted_view, without_batch, handed_view}
use Rattle.commit_queue.specs.Calls.{AwaitsBatch, TakesIn, next_number}
use Rattle.commit_queue.specs.Shown.{end_of_first, shown_by}
use Rattle.commit_queue.proofs.Laws.{at_end_of, awaits_handed, at_end, holds_taken_in}
use Rattle.commit_pipeline.specs.Numbering.{SeatGoesOn, HoldsNumbered}

-- The next batch is awaited.
pub awaits_entered : (batch : Batch) (p placed admitted p' : View) (place : ℕ) → placed ≡ placed_view p batch
    → admitted ≡ admitted_view placed → p' ≡ without_batch admitted → AwaitsBatch p batch.first place
    → AwaitsBatch p' (end_of batch) (place + 1)
awaits_entered batch p placed admitted p' place placed_is admitted_is left awaits =
    awaits_handed p placed admitted p' batch.first place (end_of batch) batch awaits placed_is admitted_is left refl

-- A seat has taken in what another shows, which has none of its own and no piece.
pub seat_taken_in : (v w v' : View) → w.seat.own ≡ [] → w.pieces ≡ [] → TakesIn v w v' → SeatGoesOn (shown_by v) (shown_by v')
seat_taken_in v w v' own pieces t = record {
  history = t.goes_on;
  published = (let e : v'.seat.published ≡ max v.seat.published w.seat.published = t.published in omega arith);
  within = t.within;
  acked = (let e : v'.seat.acked ≡ max v.seat.acked w.seat.acked = t.acked in omega arith);
  own = t.own ∙ ap (λ (l : List ℕ). v.seat.own ++ l) own ∙ append-nil v.seat.own;
  base = t.base;
  opening = t.opening;
  pieces = t.pieces ∙ ap (λ (l : List ℕ). v.pieces ++ l) pieces ∙ append-nil v.pieces;
  turn = t.turn;
}

-- The seat that took in the batch holds it, at its place.
pub numbered_entered : (batch : Batch) (place : ℕ) (p placed admitted v w v' : View) → placed ≡ placed_view p batch
    → admitted ≡ admitted_view placed → w ≡ handed_view admitted → length p.history ≡ place → v.seat.held ≡ None
    → v.base ≡ p.base → batch.first ≡ next_number p → end_of batch ≤ NUMBER_MAX
    → TakesIn v w v' → HoldsNumbered batch place (shown_by v) (shown_by v')
numbered_entered batch place p placed admitted v w v' placed_is admitted_is given place_is idle base first within t = record {
  goes_on = seat_taken_in v note v' refl refl taken;
  held = held;
  at = subst (λ (i : ℕ). get_elem? v'.history i ≡ some batch) place_is (at_prefix (p.history ++ batch ∷ []) v'.history taken.has_both (length p.history) batch (at_end p.history batch));
  behind = taken.behind place held;
  follows = first ∙ at_end_of p.history v'.history before p.base (length p.history) (omega arith)
      ∙ ap (λ (n : ℕ). end_of_first n v'.history (length p.history)) (sym (taken.base ∙ base))
      ∙ ap (end_of_first v'.base v'.history) place_is;
  within = within;
}
  where
    note : View
    note = handed_view (admitted_view (placed_view p batch))

    taken : TakesIn v note v'
    taken = subst (λ (x : View). TakesIn v x v')
        (given ∙ ap handed_view (admitted_is ∙ ap admitted_view placed_is)) t

    before : IsPrefixOf p.history v'.history
    before = prefix_then p.history (p.history ++ batch ∷ []) v'.history (batch ∷ [], refl) taken.has_both

    held : v'.seat.held ≡ Some place
    held = holds_taken_in v note v' taken idle ∙ ap (λ (i : ℕ). Some i) place_is
