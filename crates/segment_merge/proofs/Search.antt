-- A batch is found among those that are kept by its first number: it is where the search ends, or nowhere.
use Rattle.std.proofs.Common.{◌≡◌, ◌≢◌, ◌⊎◌, inl, inr, ℕ, zero, suc, ◌≤◌, ◌<◌, Bool, true, false, ltb, ltb-true, ltb-false, List, [], ◌∷◌, length, get_or, sym, ap, ◌∙◌, arith}
use Rattle.std.specs.Prelude.{Contains, MatchBool}
use Rattle.std.specs.List.Sorted.{IsPartitionedBy, IsPartitionPoint}
use Rattle.std.proofs.lemmas.List.Sorted.{IsPartitionedBy-ltb}
use Rattle.batch_repr.specs.declared.batch.Batch.{Batch}
use Rattle.batch_repr.specs.Batches.{end_of}
use Rattle.segment_merge.specs.Merging.{AscendByNumber}

low_at : (from : ℕ) (batches : List Batch) (i : ℕ) (d : Batch) → AscendByNumber from batches → i < length batches → from ≤ (get_or batches i d).first
unfolding AscendByNumber
low_at from [] i d up lt = absurd (omega (arith, lt))
low_at from (b ∷ batches) zero d up lt = up.0
low_at from (b ∷ batches) (suc i) d up lt = omega (arith, up.0, low_at (end_of b) batches i d up.2 (omega (arith, lt)))

pub rising : (from : ℕ) (batches : List Batch) (i j : ℕ) (d : Batch) → AscendByNumber from batches → i < j → j < length batches
    → (get_or batches i d).first < (get_or batches j d).first
unfolding AscendByNumber
rising from [] i j d up less lt = absurd (omega (arith, lt))
rising from (b ∷ batches) i zero d up less lt = absurd (omega (arith, less))
rising from (b ∷ batches) zero (suc j) d up less lt = omega (arith, up.1, low_at (end_of b) batches j d up.2 (omega (arith, lt)))
rising from (b ∷ batches) (suc i) (suc j) d up less lt = rising (end_of b) batches i j d up.2 (omega (arith, less)) (omega (arith, lt))

rising_at_least : (from : ℕ) (batches : List Batch) (i j : ℕ) (d : Batch) → AscendByNumber from batches → i ≤ j → j < length batches
    → (get_or batches i d).first ≤ (get_or batches j d).first
unfolding AscendByNumber
rising_at_least from [] i j d up le lt = absurd (omega (arith, lt))
rising_at_least from (b ∷ batches) zero zero d up le lt = omega arith
rising_at_least from (b ∷ batches) (suc i) zero d up le lt = absurd (omega (arith, le))
rising_at_least from (b ∷ batches) zero (suc j) d up le lt = omega (arith, up.1, low_at (end_of b) batches j d up.2 (omega (arith, lt)))
rising_at_least from (b ∷ batches) (suc i) (suc j) d up le lt = rising_at_least (end_of b) batches i j d up.2 (omega (arith, le)) (omega (arith, lt))

pub partitioned : (batches : List Batch) (first : ℕ) → AscendByNumber 0 batches → IsPartitionedBy (λ (b : Batch). ltb b.first first) batches
partitioned batches first up = IsPartitionedBy-ltb (λ (b : Batch). b.first) batches first (λ i j d le lt. rising_at_least 0 batches i j d up le lt)

-- where the search by this batch's first number ends
abbrev pub EndsAt : List Batch → Batch → ℕ → Type 0
EndsAt batches batch place = IsPartitionPoint (λ (b : Batch). ltb b.first batch.first ≡ true) (λ (b : Batch). ltb b.first batch.first ≡ false) batches place

three_cases : (m n : ℕ) → (m < n) ⊎ ((m ≡ n) ⊎ (n < m))
three_cases m n = grind arith

-- the batch is nowhere but where the search ended
only_place : (batches : List Batch) (batch : Batch) (place k : ℕ) → AscendByNumber 0 batches → EndsAt batches batch place → k < length batches
    → get_or batches k batch ≡ batch → k ≡ place
only_place batches batch place k up point lt is =
    let same : (get_or batches k batch).first ≡ batch.first = ap (λ (b : Batch). b.first) is in
    elim (three_cases k place) [
      | inl below ↦ absurd (omega (arith, same, ltb-true (get_or batches k batch).first batch.first (point.0 k batch (omega arith) below)))
      | inr (inl e) ↦ e
      | inr (inr above) ↦ absurd (omega (
        arith,
        same,
        ltb-false (get_or batches place batch).first batch.first (point.1 place batch (omega arith) (omega (arith, above, lt))),
        rising 0 batches place k batch up above lt,
      ))
    ]

pub found_there : (batches : List Batch) (batch found : Batch) (place : ℕ) (same : Bool) → AscendByNumber 0 batches
    → EndsAt batches batch place → place < length batches → get_or batches place batch ≡ found
    → MatchBool same (found ≡ batch) (found ≢ batch) → MatchBool same (Contains batches batch) (Contains batches batch → ⊥)
found_there batches batch found place true up point below is e = (place, below, is ∙ e)
found_there batches batch found place false up point below is e = λ h. e
    (sym is ∙ ap (λ k. get_or batches k batch) (sym (only_place batches batch place h.0 up point h.1 h.2)) ∙ h.2)

pub found_nowhere : (batches : List Batch) (batch : Batch) (place : ℕ) → AscendByNumber 0 batches → EndsAt batches batch place
    → length batches ≤ place → Contains batches batch → ⊥
found_nowhere batches batch place up point past h = omega (arith, past, h.1, only_place batches batch place h.0 up point h.1 h.2)
