-- What was not yet removed is still there, and the calls and moments of the three are those of all.
use Rattle.std.proofs.Common.{◌≡◌, inl, inr, List, Contains, None, sym, subst, arith}
use Rattle.disk_face.specs.declared.Side.TheVariants.{Primary, Secondary}
use Rattle.disk_face.specs.declared.Listed.{Listed}
use Rattle.disk_face.specs.View.{Place, files}
use Rattle.disk_face.specs.Listing.{IsAscending}
use Rattle.disk_face.proofs.Laws.{goes_on_further}
use Rattle.flush_table.specs.Removing.{segment_places, table_places, covered_places, IsAmong}
use Rattle.flush_table.proofs.RemovedAll.{among_ones, among_others, among_tables, stays_there, stays_gone, not_on_primary, no_segment_of, throughout_wider, in_parts, on_ok_map}
use Rattle.flush_table.proofs.Thinned.{removes_more, removes_wider, thins_further}
use Rattle.flush_table.proofs.removing.remove_covered.Goals as goal

-- ---- the primary side

pub returns-in_err-remove_segments-clause-calls : goal.returns-in_err-remove_segments-clause-calls
returns-in_err-remove_segments-clause-calls g c =
    let sides = c.args.sides.now in
    let tables = c.args.tables.now in
    let names = c.as_slice.result.now in
    removes_wider (IsAmong (segment_places Primary names)) (IsAmong (covered_places sides tables)) (g.D.Disk.view c.args.disk.now)
    (g.D.Disk.view c.remove_segments.new.disk) (among_ones sides tables names c.as_slice.ensures) c.remove_segments.ensures.calls

pub returns-in_err-remove_segments-clause-each_moment : goal.returns-in_err-remove_segments-clause-each_moment
returns-in_err-remove_segments-clause-each_moment g c = λ told.
    let sides = c.args.sides.now in
    let tables = c.args.tables.now in
    let names = c.as_slice.result.now in
    let first = g.D.Disk.view c.args.disk.now in
    throughout_wider (IsAmong (segment_places Primary names)) (IsAmong (covered_places sides tables)) first first (g.D.Disk.view c.remove_segments.new.disk)
    (among_ones sides tables names c.as_slice.ensures) (c.remove_segments.ensures.each_moment told)

-- ---- the secondary one

pub remove_segments-requires-2-clause-ascending : goal.remove_segments-requires-2-clause-ascending
remove_segments-requires-2-clause-ascending g c = subst IsAscending (sym c.as_slice-2.ensures) c.requires.names.others_ascend

pub remove_segments-requires-2-clause-there : goal.remove_segments-requires-2-clause-there
remove_segments-requires-2-clause-there g c = λ told p at.
    let ones = c.as_slice.result.now in
    let others = c.as_slice-2.result.now in
    let first = g.D.Disk.view c.args.disk.now in
    let second = g.D.Disk.view c.remove_segments.new.disk in
    stays_there (IsAmong (segment_places Primary ones)) (files first) (files second) p (not_on_primary ones others p at)
    (c.remove_segments.ensures.each_moment told second.clock c.remove_segments.ensures.goes_on.clock (omega arith))
    (c.requires.there told p (among_others c.args.sides.now c.args.tables.now others c.as_slice-2.ensures p at))

pub returns-in_err-remove_segments-2-clause-calls : goal.returns-in_err-remove_segments-2-clause-calls
returns-in_err-remove_segments-2-clause-calls g c =
    let sides = c.args.sides.now in
    let tables = c.args.tables.now in
    let ones = c.as_slice.result.now in
    let others = c.as_slice-2.result.now in
    let all = IsAmong (covered_places sides tables) in
    let first = g.D.Disk.view c.args.disk.now in
    let second = g.D.Disk.view c.remove_segments.new.disk in
    let third = g.D.Disk.view c.remove_segments-2.new.disk in
    removes_more all first second third
    (removes_wider (IsAmong (segment_places Primary ones)) all first second (among_ones sides tables ones c.as_slice.ensures) c.remove_segments.ensures.calls)
    (removes_wider (IsAmong (segment_places Secondary others)) all second third (among_others sides tables others c.as_slice-2.ensures) c.remove_segments-2.ensures.calls)

pub returns-in_err-remove_segments-2-clause-each_moment : goal.returns-in_err-remove_segments-2-clause-each_moment
returns-in_err-remove_segments-2-clause-each_moment g c = λ told.
    let sides = c.args.sides.now in
    let tables = c.args.tables.now in
    let ones = c.as_slice.result.now in
    let others = c.as_slice-2.result.now in
    let all = IsAmong (covered_places sides tables) in
    let first = g.D.Disk.view c.args.disk.now in
    let second = g.D.Disk.view c.remove_segments.new.disk in
    let third = g.D.Disk.view c.remove_segments-2.new.disk in
    thins_further all first second third c.remove_segments.ensures.goes_on c.remove_segments-2.ensures.goes_on
    (throughout_wider (IsAmong (segment_places Primary ones)) all first first second (among_ones sides tables ones c.as_slice.ensures) (c.remove_segments.ensures.each_moment told))
    (throughout_wider (IsAmong (segment_places Secondary others)) all second second third (among_others sides tables others c.as_slice-2.ensures) (c.remove_segments-2.ensures.each_moment told))

-- ---- the tables

pub remove_tables-requires-clause-there : goal.remove_tables-requires-clause-there
remove_tables-requires-clause-there g c = λ told p at.
    let tables = c.args.tables.now in
    let ones = c.as_slice.result.now in
    let others = c.as_slice-2.result.now in
    let first = g.D.Disk.view c.args.disk.now in
    let second = g.D.Disk.view c.remove_segments.new.disk in
    let third = g.D.Disk.view c.remove_segments-2.new.disk in
    stays_there (IsAmong (segment_places Secondary others)) (files second) (files third) p (no_segment_of Secondary others tables p at)
    (c.remove_segments-2.ensures.each_moment told third.clock c.remove_segments-2.ensures.goes_on.clock (omega arith))
    (stays_there (IsAmong (segment_places Primary ones)) (files first) (files second) p (no_segment_of Primary ones tables p at)
    (c.remove_segments.ensures.each_moment told second.clock c.remove_segments.ensures.goes_on.clock (omega arith))
    (c.requires.there told p (among_tables c.args.sides.now tables p at)))

pub returns-clause-calls : goal.returns-clause-calls
returns-clause-calls g c =
    let sides = c.args.sides.now in
    let tables = c.args.tables.now in
    let ones = c.as_slice.result.now in
    let others = c.as_slice-2.result.now in
    let all = IsAmong (covered_places sides tables) in
    let first = g.D.Disk.view c.args.disk.now in
    let second = g.D.Disk.view c.remove_segments.new.disk in
    let third = g.D.Disk.view c.remove_segments-2.new.disk in
    let last = g.D.Disk.view c.remove_tables.new.disk in
    removes_more all first third last (removes_more all first second third
    (removes_wider (IsAmong (segment_places Primary ones)) all first second (among_ones sides tables ones c.as_slice.ensures) c.remove_segments.ensures.calls)
    (removes_wider (IsAmong (segment_places Secondary others)) all second third (among_others sides tables others c.as_slice-2.ensures) c.remove_segments-2.ensures.calls))
    (removes_wider (IsAmong (table_places tables)) all third last (among_tables sides tables) c.remove_tables.ensures.calls)

pub returns-clause-each_moment : goal.returns-clause-each_moment
returns-clause-each_moment g c = λ told.
    let sides = c.args.sides.now in
    let tables = c.args.tables.now in
    let ones = c.as_slice.result.now in
    let others = c.as_slice-2.result.now in
    let all = IsAmong (covered_places sides tables) in
    let first = g.D.Disk.view c.args.disk.now in
    let second = g.D.Disk.view c.remove_segments.new.disk in
    let third = g.D.Disk.view c.remove_segments-2.new.disk in
    let last = g.D.Disk.view c.remove_tables.new.disk in
    thins_further all first third last (goes_on_further first second third c.remove_segments.ensures.goes_on c.remove_segments-2.ensures.goes_on)
    c.remove_tables.ensures.goes_on (thins_further all first second third c.remove_segments.ensures.goes_on c.remove_segments-2.ensures.goes_on
    (throughout_wider (IsAmong (segment_places Primary ones)) all first first second (among_ones sides tables ones c.as_slice.ensures) (c.remove_segments.ensures.each_moment told))
    (throughout_wider (IsAmong (segment_places Secondary others)) all second second third (among_others sides tables others c.as_slice-2.ensures) (c.remove_segments-2.ensures.each_moment told)))
    (throughout_wider (IsAmong (table_places tables)) all third third last (among_tables sides tables) (c.remove_tables.ensures.each_moment told))

pub returns-clause-gone : goal.returns-clause-gone
returns-clause-gone g c =
    let sides = c.args.sides.now in
    let tables = c.args.tables.now in
    let ones = c.as_slice.result.now in
    let others = c.as_slice-2.result.now in
    let second = g.D.Disk.view c.remove_segments.new.disk in
    let third = g.D.Disk.view c.remove_segments-2.new.disk in
    let last = g.D.Disk.view c.remove_tables.new.disk in
    on_ok_map c.remove_tables.result _ _
    (λ gone told p at.
    let then_ : (q : Place) → files third q ≡ None → files last q ≡ None = λ q none. stays_gone (IsAmong (table_places tables)) (files third) (files last) q
    (c.remove_tables.ensures.each_moment told last.clock c.remove_tables.ensures.goes_on.clock (omega arith)) none in
    elim (in_parts sides tables p at) [
      | inl one ↦ then_ p (stays_gone (IsAmong (segment_places Secondary others)) (files second) (files third) p
          (c.remove_segments-2.ensures.each_moment told third.clock c.remove_segments-2.ensures.goes_on.clock (omega arith))
          (c.in_ok-remove_segments.ensures.gone told p (subst (λ (l : List Listed). Contains (segment_places Primary l) p) (sym c.as_slice.ensures) one)))
      | inr (inl other) ↦ then_ p (c.in_ok-remove_segments-2.ensures.gone told p (subst (λ (l : List Listed). Contains (segment_places Secondary l) p) (sym c.as_slice-2.ensures) other))
      | inr (inr here) ↦ gone told p here
    ]) c.remove_tables.ensures.gone
