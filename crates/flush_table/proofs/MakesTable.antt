-- There is a table of what numbered batches leave whose entries are within the limits.
use Rattle.std.proofs.Common.{ℕ, ◌≤◌, List, [], ◌∷◌, All, length, arith}
use Rattle.std.specs.List.{AllByRecursion}
use Rattle.std.proofs.lemmas.List.Elements.{All-nil, All-append, recursion_from_All}
use Rattle.batch_repr.specs.declared.batch.Batch.{Batch}
use Rattle.batch_repr.specs.Batches.{count_of, entries_in}
use Rattle.batch_repr.specs.Limits.{IsWithinLimits}
use Rattle.text_lines.specs.Store.{Held, IsStoreOf}
use Rattle.table_text.specs.Tables.{IsTable, table_with}
use Rattle.table_text.proofs.Laws.{enough, live_within}
use Rattle.wal_recovery.specs.Base.{IsBatchWithin}
use Rattle.flush_table.specs.Putting.{FitsTable}

entries_within : (batches : List Batch) → AllByRecursion IsBatchWithin batches → All IsWithinLimits (entries_in batches)
entries_within [] within = All-nil IsWithinLimits
entries_within (batch ∷ batches) within =
    All-append IsWithinLimits batch.entries (entries_in batches) within.0.limits (entries_within batches within.1)

pub makes_table : (next : ℕ) (batches : List Batch) (live : List Held) → FitsTable next batches → IsStoreOf batches live
    → length live ≤ count_of (entries_in batches) → IsTable (table_with next live)
makes_table next batches live fits store few = record {
  ascends = store.ascends;
  within = live_within batches live (entries_within batches (recursion_from_All IsBatchWithin batches fits.within)) store;
  least = omega (arith, fits.numbered.least, enough fits.numbered.base.from batches live fits.numbered.base.contiguous few, fits.numbered.base.ends);
  most = fits.most;
}
