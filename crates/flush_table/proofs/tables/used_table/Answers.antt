-- The reads so far are of the tables from a place on; what is said of the disk as it is now holds of it as it was.
use Rattle.std.proofs.Common.{◌≡◌, ◌-◌, ◌<◌, ℕ, length, drop, get_or, Option, Some, None, Result, Err, Contains, sym, subst, ◌∙◌, arith, rules}
use Rattle.disk_face.specs.declared.TableListed.{TableListed}
use Rattle.disk_face.specs.View.{files}
use Rattle.disk_face.specs.Image.{dirs_as_read}
use Rattle.disk_face.proofs.Laws.{goes_on_further, same_further, same_files}
use Rattle.wal_recovery.specs.declared.fault.RecoverFault.{RecoverFault}
use Rattle.flush_table.specs.declared.tables.UsedTable.{UsedTable}
use Rattle.flush_table.specs.Asked.{ReadsTablesFrom}
use Rattle.flush_table.specs.Reading.{least_read_of}
use Rattle.flush_table.proofs.ReadsTables.{reads_down, reads_of_all, reads_from, cut_down}
use Rattle.flush_table.proofs.Whole.{told_at, uses_at, none_more, none_whole}
use Rattle.flush_table.proofs.tables.used_table.Goals as goal

abbrev absent : TableListed
absent = record { upto = 0; len = 0 }

pub returns-in_err-read-clause-asks : goal.returns-in_err-read-clause-asks
returns-in_err-read-clause-asks g c =
    let first = g.D.Disk.view c.args.disk.now in
    let new = g.D.Disk.view c.read_whole.new.disk in
    let tables = c.args.tables.now in
    let is : c.from_residual.result ≡ Err c.in_err-read.field-0.0 = search rules in
    subst (λ (r : Result (Option UsedTable) RecoverFault). ReadsTablesFrom (least_read_of r) tables first new) (sym is)
    (reads_of_all tables (c.loop-at.at - 1) first new
    (reads_down tables c.loop-at.at absent first (g.D.Disk.view c.loop-at.disk) new c.loop-at-test.true c.loop-at.invariant.within
    c.loop-at.invariant.asks c.in_err-read.ensures.asks))

pub returns-in-Some-clause-asks : goal.returns-in-Some-clause-asks
returns-in-Some-clause-asks g c =
    let first = g.D.Disk.view c.args.disk.now in
    let new = g.D.Disk.view c.read_whole.new.disk in
    let tables = c.args.tables.now in
    reads_from tables (c.loop-at.at - 1) absent first new c.requires.ascending (omega (arith, c.loop-at-test.true, c.loop-at.invariant.within))
    (reads_down tables c.loop-at.at absent first (g.D.Disk.view c.loop-at.disk) new c.loop-at-test.true c.loop-at.invariant.within
    c.loop-at.invariant.asks c.in_ok-read.ensures.asks)

pub returns-clause-asks : goal.returns-clause-asks
returns-clause-asks g c =
    reads_of_all c.args.tables.now c.loop-at.at (g.D.Disk.view c.args.disk.now) (g.D.Disk.view c.loop-at.disk) c.loop-at.invariant.asks

pub returns-in-Some-clause-used : goal.returns-in-Some-clause-used
returns-in-Some-clause-used g c = λ told listing.
    let first = g.D.Disk.view c.args.disk.now in
    let mid = g.D.Disk.view c.loop-at.disk in
    let tables = c.args.tables.now in
    let at = c.loop-at.at - 1 in
    let lt : at < length tables = omega (arith, c.loop-at-test.true, c.loop-at.invariant.within) in
    uses_at (files first) tables listing c.requires.ascending at (get_or tables at absent) (drop c.loop-at.at tables) c.in-Some.read
    (cut_down tables c.loop-at.at absent c.loop-at-test.true c.loop-at.invariant.within) (c.requires.numbers at absent lt)
    (told_at (files first) (files mid) tables at absent (same_files first mid c.loop-at.invariant.same) lt listing (Some c.in-Some.read)
    ((rw c.in-Some.is at c.in_ok-read.ensures.told) told)) (c.loop-at.invariant.none told listing)

pub loop-at-preserved : goal.loop-at-preserved
loop-at-preserved g c =
    let first = g.D.Disk.view c.args.disk.now in
    let mid = g.D.Disk.view c.loop-at.disk in
    let new = g.D.Disk.view c.read_whole.new.disk in
    let tables = c.args.tables.now in
    let at = c.loop-at.at - 1 in
    let lt : at < length tables = omega (arith, c.loop-at-test.true, c.loop-at.invariant.within) in
    record {
      within = omega (arith, lt);
      goes = goes_on_further first mid new c.loop-at.invariant.goes c.in_ok-read.ensures.goes_on;
      asks = reads_down tables c.loop-at.at absent first mid new c.loop-at-test.true c.loop-at.invariant.within c.loop-at.invariant.asks
          c.in_ok-read.ensures.asks;
      same = same_further first mid new c.loop-at.invariant.same c.in_ok-read.ensures.same;
      calm = c.in_ok-read.ensures.calm ∙ c.loop-at.invariant.calm;
      none = λ told listing. none_more (dirs_as_read (files first)) (drop at tables) (get_or tables at absent) (drop c.loop-at.at tables)
          (cut_down tables c.loop-at.at absent c.loop-at-test.true c.loop-at.invariant.within)
          (told_at (files first) (files mid) tables at absent (same_files first mid c.loop-at.invariant.same) lt listing None
          ((rw c.in_default.is at c.in_ok-read.ensures.told) told)) (c.loop-at.invariant.none told listing);
    }

pub returns-clause-used : goal.returns-clause-used
returns-clause-used g c = λ told listing.
    let first = g.D.Disk.view c.args.disk.now in
    let zero : c.loop-at.at ≡ 0 = omega (arith, c.loop-at-test.false) in
    none_whole (files first) c.args.tables.now listing
    (λ item at whole. c.loop-at.invariant.none told listing item
    (subst (λ (n : ℕ). Contains (drop n c.args.tables.now) item) (sym zero) at) whole)
