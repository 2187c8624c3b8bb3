use Rattle.std.proofs.Common.{sym, subst}
use Rattle.publish_core.specs.declared.seat.BatchShape.{BatchShape}
use Rattle.publish_core.specs.Parts.{shape_count, has_part}
use Rattle.publish_core.specs.Machine.{CoreState}
use Rattle.publish_core.specs.Sound.{Sound}
use Rattle.publish_core.proofs.Kept.{opens}
use Rattle.publish_core.proofs.machine.Core.new.Goals as goal

pub invariant_of-result : goal.invariant_of-result
invariant_of-result c =
    record {
      sound = ∣ subst (λ (s : CoreState BatchShape). Sound shape_count has_part s) (sym c.in_ok-opening.ensures)
          (opens shape_count has_part c.args.v0) ∣₁;
    }
