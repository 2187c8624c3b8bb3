use Rattle.std.proofs.Common.{◌≡◌, ◌+◌, suc, ℕ, List, sym, subst, arith}
use Rattle.disk_face.specs.declared.TableListed.{TableListed}
use Rattle.disk_face.specs.Listing.{AreTablesAscending}
use Rattle.wal_recovery.proofs.Laws.{last_cut}
use Rattle.flush_table.specs.Reading.{IsAfterTables}
use Rattle.flush_table.proofs.NextWal.{after_last}
use Rattle.flush_table.proofs.tables.next_after.Goals as goal

pub returns-in-Some : goal.returns-in-Some
returns-in-Some c =
    let last = c.in-Some.last.now in
    let cut = last_cut c.args.tables.now last (sym c.in-Some.ensures.value) in
    let next : suc last.upto ≡ last.upto + 1 = omega arith in
    subst (λ (n : ℕ). IsAfterTables c.args.tables.now n) next
    (subst (λ (tables : List TableListed). IsAfterTables tables (suc last.upto)) (sym cut.1)
    (after_last cut.0 last (subst AreTablesAscending cut.1 c.requires.ascending)))
