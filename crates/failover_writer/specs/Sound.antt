-- What a journal states of itself, whatever was done with it: whoever gets one at hand knows so much (docs/formats/journal.md, "The journal").
use Rattle.std.specs.Prelude.{◌≡◌, ℕ, ◌+◌, ◌≤◌, cond, List, [], ◌∷◌, ◌++◌, length, Some, None, ◌≢◌}
use Rattle.disk_face.specs.declared.Side.TheVariants.{Secondary}
use Rattle.stall_monitor.specs.declared.verdict.TheConstants.{SEGMENTS_MAX, THRESHOLD_MAX}
use Rattle.log_writer.specs.declared.phase.Phase.TheVariants.{Broken}
use Rattle.log_writer.specs.Writer.{Writer}
use Rattle.failover_writer.specs.declared.fault.DeadMark.{DeadMark}
use Rattle.failover_writer.specs.State.{State, len, is_broken, broken_count}

-- The journal has given up: all segments that may be begun were begun, and the last one is broken. It is on the secondary
-- side, and each failure is one of a segment.
pub record HasGivenUp (state : State) (mark : DeadMark) : Type 0 where
  pub all : length state.segments ≡ SEGMENTS_MAX
  pub earlier : List Writer
  pub last : Writer
  pub segments_are : state.segments ≡ earlier ++ last ∷ []
  pub broken : last.phase ≡ Broken
  pub side : mark.side ≡ Secondary
  pub faults : mark.faults ≡ broken_count state
  pub some : 1 ≤ mark.faults

-- how many segments before the current one are not broken
abbrev pub unbroken_before : List Writer → ℕ
unbroken_before [] = 0
unbroken_before (w ∷ []) = 0
unbroken_before (w ∷ v ∷ writers) = cond (is_broken w) 0 1 + unbroken_before (v ∷ writers)

-- Each segment before the current one that is not broken was left by a stall. Those left by a stall are segments.
pub record AreAccounted (segments : List Writer) (left_by_stall : ℕ) : Type 0 where
  pub each : unbroken_before segments ≤ left_by_stall
  pub few : left_by_stall ≤ length segments

-- What the counts of failures and of stalls leave: so many segments at most, and a journal that is dead only from ten on.
pub record CountsLeaveFew (state : State) : Type 0 where
  pub segments : length state.segments ≤ 1 + (broken_count state + state.left_by_stall)
  pub dead : state.dead ≢ None → SEGMENTS_MAX ≤ broken_count state + state.left_by_stall

-- The threshold is from 1 to 1,000, a journal of no record has no segment and is not dead, and a dead one has given up.
pub record IsSoundJournal (state : State) : Type 0 where
  pub least : 1 ≤ state.threshold
  pub most : state.threshold ≤ THRESHOLD_MAX
  pub none : len state ≡ 0 → (state.segments ≡ []) × (state.dead ≡ None)
  pub dead : (mark : DeadMark) → state.dead ≡ Some mark → HasGivenUp state mark
  pub accounted : AreAccounted state.segments state.left_by_stall
