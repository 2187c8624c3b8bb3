-- The frames of the batches so far stand there.
use Rattle.std.proofs.Common.{◌≡◌, ◌++◌, take, length}
use Rattle.wal_ship.specs.Stream.{stream_frames}
use Rattle.wal_ship.proofs.stream.put_frames.Given as goal

abbrev pub invariant-loop-batch : goal.invariant-loop-batch
invariant-loop-batch l = record {
  out : l.out ≡ l.fn.out ++ stream_frames (take l.batch-index l.batches);
  kept : take (length l.fn.out) l.out ≡ l.fn.out;
}
