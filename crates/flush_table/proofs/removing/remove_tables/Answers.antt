-- Each file is still there before it is removed, and those so far are gone.
use Rattle.std.proofs.Common.{sym, ◌∙◌, arith}
use Rattle.disk_face.proofs.Laws.{goes_on_further}
use Rattle.flush_table.specs.Removing.{table_places, IsAmong}
use Rattle.flush_table.proofs.Thinned.{removes_more, removes_once}
use Rattle.flush_table.proofs.Removed.{tables_distinct, table_here, tables_many, next_there, removed_part, removed_one, all_removed}
use Rattle.flush_table.proofs.removing.remove_tables.Goals as goal

pub remove_table-requires-clause-there : goal.remove_table-requires-clause-there
remove_table-requires-clause-there g c = λ told.
    let row = table_places c.args.tables.now in
    next_there row c.loop-item.item-index _ (omega (arith, c.loop-item-test.true, tables_many c.args.tables.now)) (table_here c.args.tables.now c.loop-item.item-index c.loop-item-test.true)
    (g.D.Disk.view c.args.disk.now) (g.D.Disk.view c.loop-item.disk) (c.loop-item.invariant.removed told) (c.requires.there told)

pub returns-in_err-remove_table-clause-calls : goal.returns-in_err-remove_table-clause-calls
returns-in_err-remove_table-clause-calls g c =
    let row = table_places c.args.tables.now in
    let first = g.D.Disk.view c.args.disk.now in
    let mid = g.D.Disk.view c.loop-item.disk in
    let new = g.D.Disk.view c.remove_table.new.disk in
    removes_more (IsAmong row) first mid new c.loop-item.invariant.calls
    (removes_once (IsAmong row) _ mid new
    (c.loop-item.item-index, omega (arith, c.loop-item-test.true, tables_many c.args.tables.now), sym (table_here c.args.tables.now c.loop-item.item-index c.loop-item-test.true))
    c.in_err-remove_table.ensures.call)

pub returns-in_err-remove_table-clause-each_moment : goal.returns-in_err-remove_table-clause-each_moment
returns-in_err-remove_table-clause-each_moment g c = λ told.
    let row = table_places c.args.tables.now in
    removed_part row (tables_distinct c.args.tables.now c.requires.ascending) c.loop-item.item-index _ (omega (arith, c.loop-item-test.true, tables_many c.args.tables.now))
    (table_here c.args.tables.now c.loop-item.item-index c.loop-item-test.true)
    (g.D.Disk.view c.args.disk.now) (g.D.Disk.view c.loop-item.disk) (g.D.Disk.view c.remove_table.new.disk) c.loop-item.invariant.goes
    c.in_err-remove_table.ensures.goes_on (c.loop-item.invariant.removed told) (c.in_err-remove_table.ensures.removes told)

pub loop-item-preserved : goal.loop-item-preserved
loop-item-preserved g c =
    let row = table_places c.args.tables.now in
    let first = g.D.Disk.view c.args.disk.now in
    let mid = g.D.Disk.view c.loop-item.disk in
    let new = g.D.Disk.view c.remove_table.new.disk in
    record {
      goes = goes_on_further first mid new c.loop-item.invariant.goes c.in_ok-remove_table.ensures.goes_on;
      idle = c.in_ok-remove_table.ensures.idle;
      calm = c.in_ok-remove_table.ensures.calm ∙ c.loop-item.invariant.calm;
      calls = removes_more (IsAmong row) first mid new c.loop-item.invariant.calls
          (removes_once (IsAmong row) _ mid new
          (c.loop-item.item-index, omega (arith, c.loop-item-test.true, tables_many c.args.tables.now), sym (table_here c.args.tables.now c.loop-item.item-index c.loop-item-test.true))
          c.in_ok-remove_table.ensures.call);
      removed = λ told. removed_one row (tables_distinct c.args.tables.now c.requires.ascending) c.loop-item.item-index _
          (omega (arith, c.loop-item-test.true, tables_many c.args.tables.now)) (table_here c.args.tables.now c.loop-item.item-index c.loop-item-test.true) first mid new
          c.loop-item.invariant.goes c.in_ok-remove_table.ensures.goes_on (c.loop-item.invariant.removed told) (c.in_ok-remove_table.ensures.removes told)
          (c.in_ok-remove_table.ensures.gone told);
    }

pub returns-clause-gone : goal.returns-clause-gone
returns-clause-gone g c = λ told.
    all_removed (table_places c.args.tables.now) c.loop-item.item-index (g.D.Disk.view c.args.disk.now) (g.D.Disk.view c.loop-item.disk)
    (omega (arith, c.loop-item-test.false, tables_many c.args.tables.now)) (c.loop-item.invariant.removed told)
