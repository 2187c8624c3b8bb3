use Rattle.std.proofs.Common.{◌≡◌, ◌+◌, length}
use Rattle.commit_pipeline.specs.Parts.{AreNew}
use Rattle.commit_pipeline.proofs.parts.seated.Given as goal

abbrev pub invariant-loop-seat : goal.invariant-loop-seat
invariant-loop-seat g l = record {
  own : (l.own.parts + length l.yielded ≡ length l.fn.seats) × (l.own.amount ≡ 0);
  dead : (l.dead.parts + length l.yielded + length l.yielded ≡ length l.fn.seats + length l.fn.seats) × (l.dead.amount ≡ 0);
  new : AreNew (length l.yielded) l.sessions.items;
}
