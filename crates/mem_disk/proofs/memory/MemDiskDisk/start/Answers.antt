use Rattle.std.proofs.Common.{◌≡◌, sym, subst, arith}
use Rattle.disk_face.specs.View.{DiskView, by_side}
use Rattle.disk_face.specs.Calls.{GoesOn, flight_of, place_of, bytes_sent_by, after_start}
use Rattle.disk_face.proofs.Laws.{goes_on_from}
use Rattle.mem_disk.specs.Mem.{mem_view}
use Rattle.mem_disk.proofs.Calls.{goes_on_moment, changes_moment, view_same, on_err}
use Rattle.mem_disk.proofs.memory.MemDiskDisk.start.Goals as goal

pub returns-in_err-begin-clause-err : goal.returns-in_err-begin-clause-err
unfolding mem_view
returns-in_err-begin-clause-err c =
    on_err _ _ (view_same c.args.self.now.files.items c.begin.new.files.items c.args.self.now.ops.items c.reserve.new.self.items
    c.args.self.now.moments.past _ _ _ c.in_err-begin.ensures.err c.reserve.ensures.items)

pub returns-in_err-begin-clause-goes_on : goal.returns-in_err-begin-clause-goes_on
unfolding mem_view
returns-in_err-begin-clause-goes_on c =
    let faults = by_side c.args.self.now.faults.primary c.args.self.now.faults.secondary in
    let polls = by_side c.args.self.now.polls.primary c.args.self.now.polls.secondary in
    let was : DiskView = mem_view c.args.self.now.files.items c.args.self.now.ops.items c.args.self.now.moments.past faults polls c.args.self.now.log.calls in
    let same = view_same c.args.self.now.files.items c.begin.new.files.items c.args.self.now.ops.items c.reserve.new.self.items
    c.args.self.now.moments.past faults polls c.args.self.now.log.calls c.in_err-begin.ensures.err c.reserve.ensures.items in
    subst (λ (v : DiskView). GoesOn was v) (sym same) (goes_on_from was)

pub returns-clause-goes_on : goal.returns-clause-goes_on
unfolding mem_view
returns-clause-goes_on c =
    goes_on_moment c.args.self.now.files.items c.begin.new.files.items _ _ c.args.self.now.moments.past c.and-moments.result.past _ _ _ _ _ _
    c.and-moments.ensures (λ s. omega arith) (λ s. omega arith)

pub returns-clause-file : goal.returns-clause-file
unfolding mem_view
returns-clause-file c =
    changes_moment c.args.self.now.files.items c.begin.new.files.items c.args.self.now.ops.items c.begin_op-number.new.ops.items
    c.args.self.now.moments.past c.and-moments.result.past _ _ _ _ _ _ c.and-moments.ensures
    (place_of c.args.op) (λ f g. g ≡ after_start (flight_of c.args.op).act (bytes_sent_by c.args.op) f) c.in_ok-begin.ensures.ok
