-- The listings are the first calls, and nothing changes after them.
use Rattle.std.proofs.Common.{◌≡◌, List, sym, subst, ◌∙◌}
use Rattle.disk_face.specs.declared.TableListed.{TableListed}
use Rattle.disk_face.specs.View.{Files, files}
use Rattle.disk_face.specs.Image.{dirs_as_read}
use Rattle.disk_face.specs.Listing.{IsTableListing}
use Rattle.disk_face.proofs.Laws.{same_files}
use Rattle.wal_recovery.specs.Sides.{AreListings}
use Rattle.flush_table.specs.Asked.{AsksOfStore, ReadsTablesFrom}
use Rattle.flush_table.specs.Reading.{tables_given, FindsUsed, least_read}
use Rattle.flush_table.proofs.Tools.{always_err}
use Rattle.flush_table.proofs.Asks.{lists_tables, lists_then, begins_by, begins_only}
use Rattle.flush_table.proofs.beginning.begin.Goals as goal

pub returns-in_err-tables-clause-asks : goal.returns-in_err-tables-clause-asks
returns-in_err-tables-clause-asks g c =
    let old = g.D.Disk.view c.args.disk.now in
    let new = g.D.Disk.view c.list_tables.new.disk in
    always_err (AsksOfStore old new) c.from_residual.result (lists_tables (tables_given c.list_tables.result) old new c.list_tables.ensures.asks)

pub returns-in_err-sides-clause-asks : goal.returns-in_err-sides-clause-asks
returns-in_err-sides-clause-asks g c =
    let old = g.D.Disk.view c.args.disk.now in
    let new = g.D.Disk.view c.list_sides.new.disk in
    always_err (AsksOfStore old new) c.from_residual-in_err-sides.result
    (lists_then (tables_given c.list_tables.result) old (g.D.Disk.view c.list_tables.new.disk) new c.list_tables.ensures.asks
    c.in_err-sides.ensures.only)

pub returns-in_err-used-clause-asks : goal.returns-in_err-used-clause-asks
returns-in_err-used-clause-asks g c =
    let old = g.D.Disk.view c.args.disk.now in
    let two = g.D.Disk.view c.list_sides.new.disk in
    let new = g.D.Disk.view c.used_table.new.disk in
    always_err (AsksOfStore old new) c.from_residual-in_err-used.result
    (begins_only 0 c.in_ok-tables.tables c.in_ok-sides.sides old new
    (begins_by 0 c.in_ok-tables.tables c.in_ok-sides.sides old (g.D.Disk.view c.list_tables.new.disk) two new
    c.in_ok-tables.ensures.asks c.in_ok-sides.ensures.lists
    (subst (λ (l : List TableListed). ReadsTablesFrom 0 l two new) c.as_slice.ensures c.in_err-used.ensures.asks)))

pub returns-clause-begun : goal.returns-clause-begun
returns-clause-begun g c =
    let two = g.D.Disk.view c.list_sides.new.disk in
    let new = g.D.Disk.view c.used_table.new.disk in
    begins_by (least_read c.in_ok-used.used) c.in_ok-tables.tables c.in_ok-sides.sides (g.D.Disk.view c.args.disk.now) (g.D.Disk.view c.list_tables.new.disk) two new
    c.in_ok-tables.ensures.asks c.in_ok-sides.ensures.lists
    (subst (λ (l : List TableListed). ReadsTablesFrom (least_read c.in_ok-used.used) l two new) c.as_slice.ensures c.in_ok-used.ensures.asks)

pub returns-clause-sides : goal.returns-clause-sides
returns-clause-sides g c = λ told.
    subst (λ (fs : Files). AreListings fs c.in_ok-sides.sides)
    (sym (same_files (g.D.Disk.view c.list_sides.new.disk) (g.D.Disk.view c.used_table.new.disk) c.in_ok-used.ensures.same))
    (c.in_ok-sides.ensures.sides told)

pub returns-clause-used : goal.returns-clause-used
returns-clause-used g c = λ told.
    let old = g.D.Disk.view c.args.disk.now in
    let one = g.D.Disk.view c.list_tables.new.disk in
    let two = g.D.Disk.view c.list_sides.new.disk in
    let same : files two ≡ files old = same_files one two c.in_ok-sides.ensures.same ∙ same_files old one c.in_ok-tables.ensures.same in
    subst (λ (fs : Files). FindsUsed (dirs_as_read fs) c.in_ok-used.used) same
    (c.in_ok-used.ensures.used told (subst (λ (fs : Files). IsTableListing fs c.as_slice.result.now) (sym same)
    (subst (λ (l : List TableListed). IsTableListing (files old) l) (sym c.as_slice.ensures) (c.in_ok-tables.ensures.tables told))))
