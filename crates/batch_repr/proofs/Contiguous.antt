-- Batches that are numbered one after another, and the number after them: in parts, and with one batch more.
use Rattle.std.proofs.Common.{◌≡◌, inl, inr, ℕ, ◌≤◌, ◌<◌, List, [], ◌∷◌, ◌++◌, subst, refl, arith}
use Rattle.std.specs.Prelude.{Contains}
use Rattle.wal_base.proofs.Laws.{none_within, within_cases}
use Rattle.batch_repr.specs.declared.batch.Batch.{Batch}
use Rattle.batch_repr.specs.Batches.{count_of, end_of, end_after, IsContiguous}

-- the end is not below the first number
pub end_up : (from : ℕ) (batches : List Batch) → IsContiguous from batches → from ≤ end_after from batches
unfolding IsContiguous end_after
end_up from [] c = omega arith
end_up from (batch ∷ batches) (at, some, rest) = omega (arith, at, some, end_up (end_of batch) batches rest)

-- where a batch of the list stands
pub record StandsWithin (from to : ℕ) (batch : Batch) : Type 0 where
  pub low : from ≤ batch.first
  pub some : batch.first < end_of batch
  pub high : end_of batch ≤ to

pub place_within : (from : ℕ) (batches : List Batch) (batch : Batch) → IsContiguous from batches → Contains batches batch
    → StandsWithin from (end_after from batches) batch
unfolding IsContiguous end_after
place_within from [] batch c h = absurd (none_within batch h)
place_within from (b ∷ batches) batch (at, some, rest) h = elim (within_cases b batches batch h) [
  | inl e ↦ subst (λ x. StandsWithin from (end_after (end_of b) batches) x) e
      (record { low = omega (arith, at); some = omega (arith, some); high = end_up (end_of b) batches rest })
  | inr later ↦
      let p = place_within (end_of b) batches batch rest later in
      record { low = omega (arith, at, some, p.low); some = p.some; high = p.high }
]

pub contiguous_append : (from : ℕ) (front back : List Batch) → IsContiguous from front → IsContiguous (end_after from front) back
    → IsContiguous from (front ++ back)
unfolding IsContiguous end_after
contiguous_append from [] back f b = b
contiguous_append from (batch ∷ front) back (at, some, rest) b = (at, some, contiguous_append (end_of batch) front back rest b)

pub contiguous_front : (from : ℕ) (front back : List Batch) → IsContiguous from (front ++ back) → IsContiguous from front
unfolding IsContiguous
contiguous_front from [] back c = tt
contiguous_front from (batch ∷ front) back (at, some, rest) = (at, some, contiguous_front (end_of batch) front back rest)

pub contiguous_back : (from : ℕ) (front back : List Batch) → IsContiguous from (front ++ back) → IsContiguous (end_after from front) back
unfolding IsContiguous end_after
contiguous_back from [] back c = c
contiguous_back from (batch ∷ front) back (at, some, rest) = contiguous_back (end_of batch) front back rest

pub end_append : (from : ℕ) (front back : List Batch) → end_after from (front ++ back) ≡ end_after (end_after from front) back
unfolding end_after
end_append from [] back = refl
end_append from (batch ∷ front) back = end_append (end_of batch) front back

-- one batch more
pub contiguous_push : (from : ℕ) (batches : List Batch) (batch : Batch) → IsContiguous from batches → batch.first ≡ end_after from batches
    → 0 < count_of batch.entries → IsContiguous from (batches ++ batch ∷ [])
unfolding IsContiguous
contiguous_push from batches batch numbered first some = contiguous_append from batches (batch ∷ []) numbered (first, some, tt)

pub end_push : (from : ℕ) (batches : List Batch) (batch : Batch) → end_after from (batches ++ batch ∷ []) ≡ end_of batch
unfolding end_after
end_push from batches batch = end_append from batches (batch ∷ [])
