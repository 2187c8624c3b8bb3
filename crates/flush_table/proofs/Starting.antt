-- Where recovery begins, by the table that was found: behind its batches, which end at its `next`.
use Rattle.std.proofs.Common.{◌≡◌, ◌+◌, ◌-◌, ◌≤◌, ℕ, List, [], length, Option, Some, None, sym, subst, ap, ◌∙◌, refl, arith, lit≤}
use Rattle.std.specs.Prelude.{IfSome}
use Rattle.std.proofs.lemmas.List.Elements.{All-nil}
use Rattle.batch_repr.specs.declared.limits.TheConstants.{NUMBER_FIRST, NUMBER_MAX}
use Rattle.batch_repr.specs.declared.batch.Batch.{Batch}
use Rattle.batch_repr.specs.Batches.{end_after, IsContiguous}
use Rattle.disk_face.specs.View.{Dirs, DiskView}
use Rattle.table_text.specs.Tables.{Table, IsTable, batches_of}
use Rattle.table_text.proofs.Laws.{batches_within, ends_at_next}
use Rattle.wal_recovery.specs.declared.reports.Start.{Start}
use Rattle.wal_recovery.specs.Base.{IsBaseOf, GoesOnFrom, IsBatchWithin, AreWithinLimits}
use Rattle.wal_recovery.proofs.Laws.{base_goes_on, goes_on_first}
use Rattle.flush_table.specs.declared.tables.UsedTable.{UsedTable}
use Rattle.flush_table.specs.declared.reports.TableSeen.{TableSeen}
use Rattle.flush_table.specs.Stores.{Used, IsUsed, TellsUsed, IsBaseSeen, IsNumberedBefore, wal_from, first_from, base_of, wal_after, table_from, number_after}
use Rattle.flush_table.specs.Asked.{ReadsNoneBelow}
use Rattle.flush_table.specs.Reading.{FindsUsed, IsSomeUsed, least_read, start_with, seen_with}

-- the start above a used table
abbrev pub start_from : Option Used → Start
start_from used = record { wal = wal_from used; number = first_from used; base = base_of used }

pub wal_seen : (found : Option UsedTable) → (start_with found).wal ≡ wal_after (seen_with found)
wal_seen None = refl
wal_seen (Some found) = refl

pub number_seen : (found : Option UsedTable) → (start_with found).number ≡ number_after (seen_with found)
number_seen None = refl
number_seen (Some found) = refl

pub number_within : (found : Option UsedTable) → IfSome found IsSomeUsed → (start_with found).number ≤ NUMBER_MAX
number_within None is = lit≤ tt
number_within (Some found) (named, (table, is, tells)) = omega (arith, tells.next_is, is.most)

-- the batches of a table are numbered, and end at its `next`
pub table_numbered : (table : Table) → IsTable table → IsNumberedBefore table.next (batches_of table)
table_numbered table is =
    let ends = ends_at_next table is in
    record { base = record { from = table.next - length table.live; contiguous = ends.0; ends = ends.1 }; least = omega (arith, is.least) }

pub table_base : (table : Table) → IsTable table → IsBaseOf table.next (batches_of table)
table_base table is = (table_numbered table is).base

pub base_within : (found : Option UsedTable) → IfSome found IsSomeUsed → AreWithinLimits (start_with found).base
base_within None is = All-nil IsBatchWithin
base_within (Some found) (named, (table, is, tells)) = subst AreWithinLimits (sym tells.batches_are) (batches_within table is)

pub none_numbered : IsNumberedBefore NUMBER_FIRST []
unfolding IsContiguous end_after
none_numbered = record { base = record { from = NUMBER_FIRST; contiguous = tt; ends = refl }; least = omega arith }

pub start_numbered : (found : Option UsedTable) → IfSome found IsSomeUsed → IsNumberedBefore (start_with found).number (start_with found).base
start_numbered None is = none_numbered
start_numbered (Some found) (named, (table, is, tells)) =
    subst (λ (n : ℕ). IsNumberedBefore n found.read.batches) (sym tells.next_is)
    (subst (λ (base : List Batch). IsNumberedBefore table.next base) (sym tells.batches_are) (table_numbered table is))

pub is_base : (found : Option UsedTable) → IfSome found IsSomeUsed → IsBaseOf (start_with found).number (start_with found).base
is_base found is = (start_numbered found is).base

-- and so are those that go on from it
pub goes_on_numbered : (number : ℕ) (base batches : List Batch) → IsNumberedBefore number base → GoesOnFrom number base batches
    → IsNumberedBefore (end_after number batches) batches
goes_on_numbered number base batches is goes = record {
  base = base_goes_on number base batches is.base goes;
  least = omega (arith, is.least, goes_on_first number base batches is.base goes);
}

pub base_seen : (found : Option UsedTable) → IfSome found IsSomeUsed → IsBaseSeen (seen_with found) (start_with found).base
base_seen None is = refl
base_seen (Some found) (named, (table, is, tells)) =
    (named, (table, is, record { keys_is = tells.keys_is; next_is = tells.next_is }, tells.batches_are))

-- what was found is the used table, from which recovery begins, and of which is told
pub found_used : (dirs : Dirs) (found : Option UsedTable) → FindsUsed dirs found
    → (used : Option Used) × IsUsed dirs used × (start_with found ≡ start_from used) × TellsUsed used (seen_with found)
found_used dirs None is = (None, is, refl, tt)
found_used dirs (Some found) is = (
  Some (record { upto = found.upto; table = is.table }),
  is.uses,
  begins,
  (refl, record { keys_is = is.tells.keys_is; next_is = is.tells.next_is }),
)
  where
    begins : start_with (Some found) ≡ start_from (Some (record { upto = found.upto; table = is.table }))
    begins i = record { wal = found.upto + 1; number = is.tells.next_is i; base = is.tells.batches_are i }

-- what was seen of the used table tells the number that the segments go on from
pub number_used : (used : Option Used) (seen : Option TableSeen) → TellsUsed used seen → number_after seen ≡ first_from used
number_used None None tells = refl
number_used None (Some seen) tells = absurd tells
number_used (Some used) None tells = absurd tells
number_used (Some used) (Some seen) tells = tells.1.next_is

-- and the WAL from which on they are read
pub wal_used : (used : Option Used) (seen : Option TableSeen) → TellsUsed used seen → wal_after seen ≡ wal_from used
wal_used None None tells = refl
wal_used None (Some seen) tells = absurd tells
wal_used (Some used) None tells = absurd tells
wal_used (Some used) (Some seen) tells = ap (λ (n : ℕ). n + 1) tells.0

-- what is not read below the table that was found is not read below what was seen of it
pub spares_seen : (found : Option UsedTable) (start : Start) → start ≡ start_with found → (seen : Option TableSeen) → seen ≡ seen_with found
    → (old new : DiskView) → ReadsNoneBelow start.wal (least_read found) old new → ReadsNoneBelow (wal_after seen) (table_from seen) old new
spares_seen found start is seen tells old new h =
    subst (λ (s : Option TableSeen). ReadsNoneBelow (wal_after s) (table_from s) old new) (sym tells)
    (subst (λ (n : ℕ). ReadsNoneBelow n (table_from (seen_with found)) old new) (ap (λ (s : Start). s.wal) is ∙ wal_seen found)
    (subst (λ (n : ℕ). ReadsNoneBelow start.wal n old new) (least_seen found) h))
  where
    least_seen : (f : Option UsedTable) → least_read f ≡ table_from (seen_with f)
    least_seen None = refl
    least_seen (Some f) = refl
