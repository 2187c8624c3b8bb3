-- Rows of calls in which nothing of a kind is counted.
use Rattle.std.proofs.Common.{◌≡◌, ℕ, List, [], ◌∷◌, sum_by, refl, arith}
use Rattle.std.specs.List.{AllByRecursion}
use Rattle.std.proofs.lemmas.List.Sums.{sum_by-cons}
use Rattle.disk_face.specs.declared.Side.{Side}
use Rattle.disk_face.specs.declared.SegName.{SegName}
use Rattle.disk_face.specs.declared.Listed.{Listed}
use Rattle.disk_face.specs.declared.OpId.{OpId}
use Rattle.disk_face.specs.declared.Progress.{Progress}
use Rattle.disk_face.specs.View.{Call, was_listed, was_read, tables_were_listed, table_was_read, table_was_put, was_removed, was_started, was_polled, Flight}
use Rattle.wal_recovery.specs.Asking.{IsNotOnTable, AreNotOnTables}
use Rattle.flush_table.specs.Asked.{IsTableRead}

-- what counts 0 of each call counts 0 of all
none_of : {P : Call → Type 0} (count : Call → ℕ) → ((call : Call) → P call → count call ≡ 0) → (calls : List Call) → AllByRecursion P calls
    → sum_by count calls ≡ 0
none_of count none [] all = refl
none_of count none (call ∷ calls) all = omega (arith, sum_by-cons count call calls, none call all.0, none_of count none calls all.1)

-- calls that are not on tables
pub none_on_tables : (count : Call → ℕ) → ((side : Side) (names : List Listed) → count (was_listed side names) ≡ 0)
    → ((side : Side) (name : SegName) (len : ℕ) → count (was_read side name len) ≡ 0)
    → ((id : OpId) (flight : Flight) → count (was_started id flight) ≡ 0)
    → ((id : OpId) (answer : Progress) → count (was_polled id answer) ≡ 0) → (calls : List Call) → AreNotOnTables calls → sum_by count calls ≡ 0
none_on_tables count listed read started polled calls all = none_of {P = IsNotOnTable} count each calls all
  where
    each : (call : Call) → IsNotOnTable call → count call ≡ 0
    each (was_listed side names) is = listed side names
    each (was_read side name len) is = read side name len
    each (tables_were_listed tables) is = absurd is
    each (table_was_read upto len) is = absurd is
    each (table_was_put upto bytes ok) is = absurd is
    each (was_removed place ok) is = absurd is
    each (was_started id flight) is = started id flight
    each (was_polled id answer) is = polled id answer

-- calls that read tables
pub none_of_reads : (count : Call → ℕ) → ((upto len : ℕ) → count (table_was_read upto len) ≡ 0) → (calls : List Call)
    → AllByRecursion IsTableRead calls → sum_by count calls ≡ 0
none_of_reads count read calls all = none_of {P = IsTableRead} count each calls all
  where
    each : (call : Call) → IsTableRead call → count call ≡ 0
    each (was_listed side names) is = absurd is
    each (was_read side name len) is = absurd is
    each (tables_were_listed tables) is = absurd is
    each (table_was_read upto len) is = read upto len
    each (table_was_put upto bytes ok) is = absurd is
    each (was_removed place ok) is = absurd is
    each (was_started id flight) is = absurd is
    each (was_polled id answer) is = absurd is
