-- The table is settled, and then what it covers removed.
use Rattle.std.proofs.Common.{◌+◌, List, Contains, sym, subst, arith}
use Rattle.disk_face.specs.declared.TableListed.{TableListed}
use Rattle.flush_table.proofs.Flushes.{there_still, read_calls, read_moments, read_flushed}
use Rattle.flush_table.proofs.flushing.flush_read.Goals as goal

pub remove_covered-requires-clause-there : goal.remove_covered-requires-clause-there
remove_covered-requires-clause-there g c =
    there_still g.D.Disk.tells c.args.found c.args.wal c.requires.greatest c.tables_below.result.now (g.D.Disk.view c.args.disk.now)
    (g.D.Disk.view c.settle_table.new.disk) c.in_ok-used.used c.in_ok-used.ensures.settled
    (λ item at. subst (λ (l : List TableListed). Contains l item) c.as_slice.ensures (c.tables_below.ensures.within item at)) c.tables_below.ensures.below c.requires.there

pub returns-in_err-remove_covered-clause-calls : goal.returns-in_err-remove_covered-clause-calls
returns-in_err-remove_covered-clause-calls g c =
    read_calls g.D.Disk.tells c.args.found c.args.wal c.requires.greatest c.tables_below.result.now (g.D.Disk.view c.args.disk.now)
    (g.D.Disk.view c.settle_table.new.disk) c.in_ok-used.used c.in_ok-used.ensures.settled
    (λ item at. subst (λ (l : List TableListed). Contains l item) c.as_slice.ensures (c.tables_below.ensures.within item at)) c.tables_below.ensures.below
    (g.D.Disk.view c.remove_covered.new.disk) c.in_ok-used.ensures.calls c.remove_covered.ensures.calls

pub returns-in_err-remove_covered-clause-each_moment : goal.returns-in_err-remove_covered-clause-each_moment
returns-in_err-remove_covered-clause-each_moment g c =
    read_moments g.D.Disk.tells c.args.found c.args.wal c.requires.greatest c.tables_below.result.now (g.D.Disk.view c.args.disk.now)
    (g.D.Disk.view c.settle_table.new.disk) c.in_ok-used.used c.in_ok-used.ensures.settled
    (λ item at. subst (λ (l : List TableListed). Contains l item) c.as_slice.ensures (c.tables_below.ensures.within item at)) c.tables_below.ensures.below
    (g.D.Disk.view c.remove_covered.new.disk) c.remove_covered.ensures.goes_on c.in_ok-used.ensures.each_moment c.remove_covered.ensures.each_moment

pub returns-clause-calls : goal.returns-clause-calls
returns-clause-calls g c =
    read_calls g.D.Disk.tells c.args.found c.args.wal c.requires.greatest c.tables_below.result.now (g.D.Disk.view c.args.disk.now)
    (g.D.Disk.view c.settle_table.new.disk) c.in_ok-used.used c.in_ok-used.ensures.settled
    (λ item at. subst (λ (l : List TableListed). Contains l item) c.as_slice.ensures (c.tables_below.ensures.within item at)) c.tables_below.ensures.below
    (g.D.Disk.view c.remove_covered.new.disk) c.in_ok-used.ensures.calls c.remove_covered.ensures.calls

pub returns-clause-each_moment : goal.returns-clause-each_moment
returns-clause-each_moment g c =
    read_moments g.D.Disk.tells c.args.found c.args.wal c.requires.greatest c.tables_below.result.now (g.D.Disk.view c.args.disk.now)
    (g.D.Disk.view c.settle_table.new.disk) c.in_ok-used.used c.in_ok-used.ensures.settled
    (λ item at. subst (λ (l : List TableListed). Contains l item) c.as_slice.ensures (c.tables_below.ensures.within item at)) c.tables_below.ensures.below
    (g.D.Disk.view c.remove_covered.new.disk) c.remove_covered.ensures.goes_on c.in_ok-used.ensures.each_moment c.remove_covered.ensures.each_moment

pub returns-clause-flushed : goal.returns-clause-flushed
returns-clause-flushed g c =
    read_flushed g.D.Disk.tells c.args.found c.args.wal c.requires.greatest c.tables_below.result.now (g.D.Disk.view c.args.disk.now)
    (g.D.Disk.view c.settle_table.new.disk) c.in_ok-used.used c.in_ok-used.ensures.settled
    (λ item at. subst (λ (l : List TableListed). Contains l item) c.as_slice.ensures (c.tables_below.ensures.within item at)) c.tables_below.ensures.below
    (g.D.Disk.view c.remove_covered.new.disk) c.remove_covered.ensures.goes_on c.remove_covered.ensures.each_moment
    c.in_ok-remove_covered.ensures.gone
    (λ item at low. c.tables_below.ensures.all item (subst (λ (l : List TableListed). Contains l item) (sym c.as_slice.ensures) at) low)
    (c.len.result + c.len-2.result) (omega (arith, c.len.ensures, c.len-2.ensures))
