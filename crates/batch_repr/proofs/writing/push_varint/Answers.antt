use Rattle.std.proofs.Common.{arith, refl, ◌∷◌, [], ◌+◌, ◌%◌}
use Rattle.batch_repr.proofs.WrittenNumber.{left_first, left_next, kept_more, kept_all}
use Rattle.batch_repr.proofs.writing.push_varint.Goals as goal

pub loop-rest-init : goal.loop-rest-init
loop-rest-init c = record { left = left_first c.args.out.now.items c.args.n (omega arith); kept = kept_all c.args.out.now.items }

pub loop-rest-preserved : goal.loop-rest-preserved
loop-rest-preserved c = record {
  left = left_next c.loop-rest.out.items c.push.new.self.items c.loop-rest.rest (c.loop-rest.rest % 128 + 128) _ c.loop-rest-test.true c.loop-rest.invariant.left refl c.in_ok-push.ensures.items;
  kept = kept_more _ c.loop-rest.out.items c.push.new.self.items ((c.loop-rest.rest % 128 + 128) ∷ []) c.loop-rest.invariant.kept c.in_ok-push.ensures.items;
}
