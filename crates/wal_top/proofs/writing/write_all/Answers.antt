use Rattle.std.proofs.Common.{arith}
use Rattle.wal_top.proofs.WrittenSoFar.{front_next}
use Rattle.wal_top.proofs.writing.write_all.Goals as goal

pub loop-rest-preserved : goal.loop-rest-preserved
loop-rest-preserved g c = record {
  so_far = front_next _ (g.K.Sink.written c.loop-rest.out) _ c.args.text.now c.loop-rest.rest.now c.in_ok-count.count
      c.loop-rest.invariant.so_far c.in_ok-count.ensures.taken;
  faults_later = omega (arith, c.loop-rest.invariant.faults_later, c.in_ok-count.ensures.cause.later);
  shortages_later = omega (arith, c.loop-rest.invariant.shortages_later, c.in_ok-count.ensures.shortage.later);
}
