-- A journal that gives up states so of itself.
use Rattle.std.proofs.Common.{◌≡◌, ℕ, ◌-◌, List, length, Some, ap, subst, ◌∙◌, arith}
use Rattle.disk_face.specs.declared.Side.{Side}
use Rattle.disk_face.specs.declared.Side.TheVariants.{Secondary}
use Rattle.stall_monitor.specs.Verdicts.{IsToDie}
use Rattle.log_writer.specs.Writer.{Writer}
use Rattle.failover_writer.specs.State.{State, broken_count}
use Rattle.failover_writer.specs.Ranges.{side_at}
use Rattle.failover_writer.specs.Stepping.{Verdict}
use Rattle.failover_writer.specs.Sound.{HasGivenUp, IsSoundJournal}
use Rattle.failover_writer.proofs.StepRule.{broken_phase, dying_broken}
use Rattle.failover_writer.proofs.IsSoundJournal.{some_records}

-- A journal that gives up.
pub sound_dead : (old : State) (side : Side) (count : ℕ) → IsSoundJournal old → Verdict IsToDie old
    → side ≡ side_at (length old.segments - 1) → count ≡ broken_count old
    → IsSoundJournal (record old { dead = Some (record { side = side; faults = count }) })
sound_dead old side count sound verdict side_is count_is = record {
  least = sound.least;
  most = sound.most;
  accounted = sound.accounted;
  none = λ empty. absurd (some_records old sound (λ none. omega (arith, ap (λ (ws : List Writer). length ws) none, verdict.says.1)) empty);
  dead = λ mark is.
      let the : record { side = side; faults = count } ≡ mark = cc in
      let side_of : side ≡ Secondary = side_is ∙ ap (λ (n : ℕ). side_at (n - 1)) verdict.says.1 in
      subst (HasGivenUp (record old { dead = Some (record { side = side; faults = count }) })) the (record {
        all = verdict.says.1;
        earlier = verdict.earlier;
        last = verdict.current;
        segments_are = verdict.segments_are;
        broken = broken_phase verdict.current.phase verdict.says.0;
        side = side_of;
        faults = count_is;
        some = omega (arith, count_is, dying_broken old verdict);
      });
}
