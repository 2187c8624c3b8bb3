use Rattle.std.proofs.Common.{◌≡◌, ◌∙◌, sym, subst, refl, arith}
use Rattle.disk_face.specs.View.{Flight, segment, by_side}
use Rattle.disk_face.specs.Calls.{AfterDone, AfterFailed, ChangesFile}
use Rattle.mem_disk.specs.Mem.{act_in_memory, mem_view}
use Rattle.mem_disk.proofs.Calls.{files_now, goes_on_moment, changes_moment, same_flight, failed_file}
use Rattle.mem_disk.proofs.memory.MemDiskDisk.poll.Goals as goal

pub returns-then-contains-clause-goes_on : goal.returns-then-contains-clause-goes_on
unfolding mem_view
returns-then-contains-clause-goes_on c =
    goes_on_moment c.args.self.now.files.items c.args.self.now.files.items _ _ c.args.self.now.moments.past c.and-self.result.past _ _ _ _ _ _ c.and-self.ensures
    c.raise.ensures.others c.take_one.ensures.others

pub returns-then-contains-clause-polled : goal.returns-then-contains-clause-polled
unfolding mem_view
returns-then-contains-clause-polled c = record {
  ends = record { gone = c.end_op-op.ensures.gone; others = c.end_op-op.ensures.others };
  rose = c.raise.ensures.here;
  file = λ told f is.
      let same : record { place = segment c.end_op-op.result.side c.end_op-op.result.name; act = act_in_memory c.end_op-op.result.act } ≡ f =
      same_flight _ _ _ c.end_op-op.ensures.flight is in
      subst (λ (g : Flight). ChangesFile g.place (AfterFailed g.act) (mem_view c.args.self.now.files.items c.args.self.now.ops.items
      c.args.self.now.moments.past (by_side c.args.self.now.faults.primary c.args.self.now.faults.secondary)
      (by_side c.args.self.now.polls.primary c.args.self.now.polls.secondary) c.args.self.now.log.calls)
      (mem_view c.args.self.now.files.items c.end_op-op.new.ops.items c.and-self.result.past (by_side c.raise.new.self.primary c.raise.new.self.secondary)
      (by_side c.take_one.new.self.primary c.take_one.new.self.secondary) c.note_poll-then-contains.new.self.calls)) same
      (changes_moment c.args.self.now.files.items c.args.self.now.files.items _ _ c.args.self.now.moments.past c.and-self.result.past _ _ _ _ _ _ c.and-self.ensures
      (segment c.end_op-op.result.side c.end_op-op.result.name) (AfterFailed (act_in_memory c.end_op-op.result.act))
      (record { here = failed_file _ _; others = λ q ne. refl }));
}

pub returns-clause-goes_on : goal.returns-clause-goes_on
unfolding mem_view
returns-clause-goes_on c =
    goes_on_moment c.args.self.now.files.items c.settle.new.files.items _ _ c.args.self.now.moments.past c.and-self.result.past _ _ _ _ _ _ c.and-self.ensures
    (λ s. omega arith) c.take_one.ensures.others

pub returns-clause-polled : goal.returns-clause-polled
unfolding mem_view
returns-clause-polled c = record {
  ends = record { gone = c.end_op-op.ensures.gone; others = c.end_op-op.ensures.others };
  file = λ told f is.
      let same : record { place = segment c.end_op-op.result.side c.end_op-op.result.name; act = act_in_memory c.end_op-op.result.act } ≡ f =
      same_flight _ _ _ c.end_op-op.ensures.flight is in
      subst (λ (g : Flight). ChangesFile g.place (AfterDone g.act) (mem_view c.args.self.now.files.items c.args.self.now.ops.items
      c.args.self.now.moments.past (by_side c.args.self.now.faults.primary c.args.self.now.faults.secondary)
      (by_side c.args.self.now.polls.primary c.args.self.now.polls.secondary) c.args.self.now.log.calls)
      (mem_view c.settle.new.files.items c.end_op-op.new.ops.items c.and-self.result.past
      (by_side c.args.self.now.faults.primary c.args.self.now.faults.secondary)
      (by_side c.take_one.new.self.primary c.take_one.new.self.secondary) c.note_poll-2.new.self.calls)) same
      (changes_moment c.args.self.now.files.items c.settle.new.files.items _ _ c.args.self.now.moments.past c.and-self.result.past _ _ _ _ _ _ c.and-self.ensures
      (segment c.end_op-op.result.side c.end_op-op.result.name) (AfterDone (act_in_memory c.end_op-op.result.act)) c.settle.ensures.changes);
}

pub returns-then-contains-clause-kept : goal.returns-then-contains-clause-kept
unfolding mem_view
returns-then-contains-clause-kept c failed = files_now c.and-self.result.past c.args.self.now.files.items
    ∙ sym (files_now c.args.self.now.moments.past c.args.self.now.files.items)
