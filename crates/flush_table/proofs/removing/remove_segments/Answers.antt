-- Each file is still there before it is removed, and those so far are gone.
use Rattle.std.proofs.Common.{sym, ◌∙◌, arith}
use Rattle.disk_face.proofs.Laws.{goes_on_further}
use Rattle.flush_table.specs.Removing.{segment_places, IsAmong}
use Rattle.flush_table.proofs.Thinned.{removes_more, removes_once}
use Rattle.flush_table.proofs.Removed.{segments_distinct, segment_here, segments_many, next_there, removed_part, removed_one, all_removed}
use Rattle.flush_table.proofs.removing.remove_segments.Goals as goal

pub remove_segment-requires-clause-there : goal.remove_segment-requires-clause-there
remove_segment-requires-clause-there g c = λ told.
    let row = segment_places c.args.side c.args.names.now in
    next_there row c.loop-item.item-index _ (omega (arith, c.loop-item-test.true, segments_many c.args.side c.args.names.now)) (segment_here c.args.side c.args.names.now c.loop-item.item-index c.loop-item-test.true)
    (g.D.Disk.view c.args.disk.now) (g.D.Disk.view c.loop-item.disk) (c.loop-item.invariant.removed told) (c.requires.there told)

pub returns-in_err-remove_segment-clause-calls : goal.returns-in_err-remove_segment-clause-calls
returns-in_err-remove_segment-clause-calls g c =
    let row = segment_places c.args.side c.args.names.now in
    let first = g.D.Disk.view c.args.disk.now in
    let mid = g.D.Disk.view c.loop-item.disk in
    let new = g.D.Disk.view c.remove_segment.new.disk in
    removes_more (IsAmong row) first mid new c.loop-item.invariant.calls
    (removes_once (IsAmong row) _ mid new
    (c.loop-item.item-index, omega (arith, c.loop-item-test.true, segments_many c.args.side c.args.names.now), sym (segment_here c.args.side c.args.names.now c.loop-item.item-index c.loop-item-test.true))
    c.in_err-remove_segment.ensures.call)

pub returns-in_err-remove_segment-clause-each_moment : goal.returns-in_err-remove_segment-clause-each_moment
returns-in_err-remove_segment-clause-each_moment g c = λ told.
    let row = segment_places c.args.side c.args.names.now in
    removed_part row (segments_distinct c.args.side c.args.names.now c.requires.ascending) c.loop-item.item-index _ (omega (arith, c.loop-item-test.true, segments_many c.args.side c.args.names.now))
    (segment_here c.args.side c.args.names.now c.loop-item.item-index c.loop-item-test.true)
    (g.D.Disk.view c.args.disk.now) (g.D.Disk.view c.loop-item.disk) (g.D.Disk.view c.remove_segment.new.disk) c.loop-item.invariant.goes
    c.in_err-remove_segment.ensures.goes_on (c.loop-item.invariant.removed told) (c.in_err-remove_segment.ensures.removes told)

pub loop-item-preserved : goal.loop-item-preserved
loop-item-preserved g c =
    let row = segment_places c.args.side c.args.names.now in
    let first = g.D.Disk.view c.args.disk.now in
    let mid = g.D.Disk.view c.loop-item.disk in
    let new = g.D.Disk.view c.remove_segment.new.disk in
    record {
      goes = goes_on_further first mid new c.loop-item.invariant.goes c.in_ok-remove_segment.ensures.goes_on;
      idle = c.in_ok-remove_segment.ensures.idle;
      calm = c.in_ok-remove_segment.ensures.calm ∙ c.loop-item.invariant.calm;
      calls = removes_more (IsAmong row) first mid new c.loop-item.invariant.calls
          (removes_once (IsAmong row) _ mid new
          (c.loop-item.item-index, omega (arith, c.loop-item-test.true, segments_many c.args.side c.args.names.now), sym (segment_here c.args.side c.args.names.now c.loop-item.item-index c.loop-item-test.true))
          c.in_ok-remove_segment.ensures.call);
      removed = λ told. removed_one row (segments_distinct c.args.side c.args.names.now c.requires.ascending) c.loop-item.item-index _
          (omega (arith, c.loop-item-test.true, segments_many c.args.side c.args.names.now)) (segment_here c.args.side c.args.names.now c.loop-item.item-index c.loop-item-test.true) first mid new
          c.loop-item.invariant.goes c.in_ok-remove_segment.ensures.goes_on (c.loop-item.invariant.removed told) (c.in_ok-remove_segment.ensures.removes told)
          (c.in_ok-remove_segment.ensures.gone told);
    }

pub returns-clause-gone : goal.returns-clause-gone
returns-clause-gone g c = λ told.
    all_removed (segment_places c.args.side c.args.names.now) c.loop-item.item-index (g.D.Disk.view c.args.disk.now) (g.D.Disk.view c.loop-item.disk)
    (omega (arith, c.loop-item-test.false, segments_many c.args.side c.args.names.now)) (c.loop-item.invariant.removed told)
