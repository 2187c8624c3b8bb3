use Rattle.std.proofs.Common.{length, ◌-◌, ◌≡◌, ◌≤◌, ◌<◌, take, drop}
use Rattle.std.specs.Io.KnownBytes.{Consumes}
use Rattle.file_disk.proofs.system.fill.Given as goal

abbrev pub invariant-loop-filled : goal.invariant-loop-filled
invariant-loop-filled g l = record {
  within : l.filled ≤ length l.buf;
  long : length l.buf ≡ length l.initial.buf;
  room : 0 < length l.initial.buf → 0 < length l.piece;
  behind : drop l.filled l.buf ≡ drop l.filled l.initial.buf;
  read : Consumes (g.I.Read.remaining l.initial.input) (g.I.Read.remaining l.input) (take l.filled l.buf);
}

abbrev pub decreases-loop-filled : goal.decreases-loop-filled
decreases-loop-filled g l = length l.initial.buf - l.filled
