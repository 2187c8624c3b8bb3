-- How many numbers batches use, and that they end that far above their first number.
use Rattle.std.proofs.Common.{◌≡◌, ◌+◌, ◌≤◌, ℕ, cond, List, [], ◌∷◌, length, arith}
use Rattle.std.proofs.lemmas.List.Sums.{sum_by-append}
use Rattle.wal_base.specs.declared.entry.Entry.{Entry}
use Rattle.batch_repr.specs.declared.batch.Batch.{Batch}
use Rattle.batch_repr.specs.Batches.{is_counted, count_of, end_of, entries_in, end_after, IsContiguous}
use Rattle.text_lines.specs.Store.{Held}

uses_all : (first : ℕ) (batches : List Batch) → IsContiguous first batches → first + count_of (entries_in batches) ≡ end_after first batches
unfolding IsContiguous end_after
uses_all first [] contiguous = omega arith
uses_all first (batch ∷ later) (at, some, rest) =
    omega (arith, at, sum_by-append (λ (e : Entry). cond (is_counted e) 1 0) batch.entries (entries_in later), uses_all (end_of batch) later rest)

pub enough : (first : ℕ) (batches : List Batch) (live : List Held) → IsContiguous first batches → length live ≤ count_of (entries_in batches)
    → first + length live ≤ end_after first batches
enough first batches live contiguous few = omega (arith, few, uses_all first batches contiguous)
