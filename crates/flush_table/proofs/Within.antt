-- The number that segments go on from lies within the batches of a store: the table's end at it, and those behind begin there.
use Rattle.std.proofs.Common.{◌≡◌, ◌≤◌, ℕ, List, [], ◌∷◌, ◌++◌, Option, Some, None, sym, subst, ap, ◌∙◌, refl, arith}
use Rattle.batch_repr.specs.declared.limits.TheConstants.{NUMBER_FIRST}
use Rattle.batch_repr.specs.declared.batch.Batch.{Batch}
use Rattle.batch_repr.specs.Batches.{end_after, end_of, IsContiguous}
use Rattle.batch_repr.proofs.Laws.{contiguous_append, end_append, end_up}
use Rattle.flush_table.specs.declared.reports.StoreRead.{StoreRead}
use Rattle.flush_table.specs.declared.reports.TableSeen.{TableSeen}
use Rattle.flush_table.specs.Stores.{IsBaseSeen, IsNumberedBefore, number_after}
use Rattle.flush_table.specs.Promises.{HasNoGapBehindSeen}
use Rattle.flush_table.proofs.Starting.{none_numbered, table_numbered}

pub base_ends_at_next : (seen : Option TableSeen) (base : List Batch) → IsBaseSeen seen base → IsNumberedBefore (number_after seen) base
base_ends_at_next None base is = subst (IsNumberedBefore NUMBER_FIRST) (sym is) none_numbered
base_ends_at_next (Some seen) base (named, (table, is, of, are)) =
    subst (λ (n : ℕ). IsNumberedBefore n base) (sym of.next_is)
    (subst (λ (b : List Batch). IsNumberedBefore table.next b) (sym are) (table_numbered table is))

-- where the first of some batches begins, the end of all is the same from any number on, and with no batch it is that number
end_from : (one other : ℕ) (batches : List Batch) → IsContiguous one batches → one ≤ other → other ≤ end_after one batches
    → end_after one batches ≡ end_after other batches
unfolding IsContiguous end_after
end_from one other [] row from to = omega (arith, from, to)
end_from one other (batch ∷ batches) row from to = refl

-- Batches are in a row, and the number is from the first one's number to their end.
pub record IsRowOver (number : ℕ) (batches : List Batch) : Type 0 where
  pub start : ℕ
  pub row : IsContiguous start batches
  pub from : start ≤ number
  pub to : number ≤ end_after start batches
  pub end : end_after start batches ≡ end_after number batches

pub row_over : (found : StoreRead) → HasNoGapBehindSeen found → IsRowOver (number_after found.table) found.batches
row_over found (base, seen, goes) = subst (IsRowOver number) (sym goes.behind) (record { start = start; row = row; from = from; to = to; end = end_from start number all row from to })
  where
    number : ℕ
    number = number_after found.table

    all : List Batch
    all = base ++ goes.merged

    start : ℕ
    start = (base_ends_at_next found.table base seen).base.from

    ends : end_after start base ≡ number
    ends = (base_ends_at_next found.table base seen).base.ends

    front : IsContiguous start base
    front = (base_ends_at_next found.table base seen).base.contiguous

    from : start ≤ number
    from = omega (arith, ends, end_up start base front)

    row : IsContiguous start all
    row = contiguous_append start base goes.merged front (subst (λ (n : ℕ). IsContiguous n goes.merged) (sym ends) goes.contiguous)

    to : number ≤ end_after start all
    to = omega (arith, end_append start base goes.merged, ap (λ (n : ℕ). end_after n goes.merged) ends, end_up number goes.merged goes.contiguous)
