-- What a session has seen are the first batches of its seat's history.
use Rattle.std.proofs.Common.{◌≡◌, ℕ, zero, suc, ◌<◌, ◌≤◌, List, [], ◌∷◌, length, take, drop, sym, arith}
use mathlib.Core.Option.{some, some-ne-none}
use lib.ListN.{get_elem?}
use Rattle.std.proofs.lemmas.List.{length-take-le, take-append-drop}
use Rattle.wal_base.specs.Prefixes.{IsPrefixOf}
use Rattle.wal_base.proofs.Laws.{prefix_taken}
use Rattle.batch_repr.specs.declared.batch.Batch.{Batch}
use Rattle.commit_queue.specs.declared.view.View.{View}
use Rattle.commit_queue.specs.Shown.{end_of_first, shown_by}
use Rattle.commit_queue.proofs.Laws.{at_end_of}
use Rattle.commit_pipeline.specs.Numbering.{SeatGoesOn}
use Rattle.commit_pipeline.specs.Standings.{seen_of, standing, SeesOn, Idles}

-- a batch within the first n of them
pub at_take : (n i : ℕ) (xs : List Batch) (b : Batch) → i < n → get_elem? xs i ≡ some b → get_elem? (take n xs) i ≡ some b
at_take zero i xs b below at = absurd (omega (arith, below))
at_take (suc n) i [] b below at = at
at_take (suc n) zero (x ∷ xs) b below at = at
at_take (suc n) (suc i) (x ∷ xs) b below at = at_take n i xs b (omega (arith, below)) at

-- what stands among the first n
pub take_at : (n i : ℕ) (xs : List Batch) (b : Batch) → get_elem? (take n xs) i ≡ some b → (i < n) × (get_elem? xs i ≡ some b)
take_at zero i xs b at = absurd (some-ne-none b (sym at))
take_at (suc n) i [] b at = absurd (some-ne-none b (sym at))
take_at (suc n) zero (x ∷ xs) b at = (omega arith, at)
take_at (suc n) (suc i) (x ∷ xs) b at = let rest = take_at n i xs b at in (omega (arith, rest.0), rest.1)

-- the end of some of them is that of as many of all
pub ends_take : (base n k : ℕ) (xs : List Batch) → n ≤ length xs → k ≤ n → end_of_first base (take n xs) k ≡ end_of_first base xs k
ends_take base n k xs within few =
    at_end_of (take n xs) xs (drop n xs, sym (take-append-drop n xs)) base k (omega (arith, length-take-le n xs within, few))

-- What is seen grows with the history and with what is known to be published.
pub seen_longer : (v v' : View) → IsPrefixOf v.history v'.history → v.seat.published ≤ v'.seat.published → IsPrefixOf (seen_of (shown_by v)) (seen_of (shown_by v'))
seen_longer v v' history published = prefix_taken v.history v'.history v.seat.published v'.seat.published history published

-- A seat that has seen more gives a standing that goes on.
pub seen_more : (v v' : View) (dead dead' told told' : ℕ) → IsPrefixOf v.history v'.history → v.seat.published ≤ v'.seat.published
    → v.seat.acked ≤ v'.seat.acked → told' ≡ told → SeesOn (standing (shown_by v) dead told) (standing (shown_by v') dead' told')
seen_more v v' dead dead' told told' history published acked same =
    record { seen = seen_longer v v' history published; acked = acked; told = omega (arith, same) }

-- And where its own batches are the same, and it was told of no death, the standing idles.
pub idles_on : (v v' : View) (dead dead' told told' : ℕ) → SeatGoesOn (shown_by v) (shown_by v') → told' ≡ told
    → Idles (standing (shown_by v) dead told) (standing (shown_by v') dead' told')
idles_on v v' dead dead' told told' on same =
    record { goes_on = seen_more v v' dead dead' told told' on.history on.published on.acked same; own = on.own; told = same }
