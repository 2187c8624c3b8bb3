use Rattle.crc_chunk.specs.declared.chunk.TheConstants.{BLOCK}
use Rattle.std.proofs.Common.{◌≡◌, ◌+◌, ◌%◌, ◌≤◌, max}
use Rattle.log_writer.specs.Sending.{HasFrames}
use Rattle.log_writer.proofs.beginning.frames_len.Given as goal

abbrev pub invariant-loop-number : goal.invariant-loop-number
invariant-loop-number l = record {
  within : l.number ≤ max l.from l.to;
  framed : HasFrames l.queue l.framer l.from l.number l.len;
  moved : l.passed ≡ record l.framer { place = (l.framer.place + l.len) % BLOCK };
}
