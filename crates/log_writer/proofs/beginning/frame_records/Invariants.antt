use Rattle.std.proofs.Common.{◌≡◌, ◌++◌, ◌≤◌, max}
use Rattle.block_record.specs.Framing.{standing_after}
use Rattle.log_writer.specs.Sending.{frames_from}
use Rattle.log_writer.proofs.beginning.frame_records.Given as goal

abbrev pub invariant-loop-number : goal.invariant-loop-number
invariant-loop-number l = record {
  within : l.number ≤ max l.from l.to;
  framed : l.out ≡ l.initial.out ++ frames_from l.queue l.initial.framer.log l.offset l.initial.framer.place l.from l.number;
  moved : l.framer ≡ standing_after l.initial.framer (frames_from l.queue l.initial.framer.log l.offset l.initial.framer.place l.from l.number);
}
