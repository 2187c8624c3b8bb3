-- A number that falls with each step that moves or waits, so that steps come to an end (docs/formats/journal.md, "The step of a journal").
use Rattle.std.specs.Prelude.{ℕ, ◌+◌, ◌-◌, ◌*◌, ◌<◌, List, [], ◌∷◌, length, nat_lt, if◌then◌else◌, Result, IfOk, ◌≢◌}
use Rattle.disk_face.specs.declared.Side.TheVariants.{Primary, Secondary}
use Rattle.disk_face.specs.View.{DiskView}
use Rattle.stall_monitor.specs.declared.verdict.TheConstants.{SEGMENTS_MAX}
use Rattle.log_writer.specs.declared.phase.Operation.TheVariants.{Create, Write, Sync}
use Rattle.log_writer.specs.declared.phase.Phase.{Phase}
use Rattle.log_writer.specs.declared.phase.Phase.TheVariants.{New, InFlight, Idle, Broken}
use Rattle.log_writer.specs.Writer.{Writer}
use Rattle.failover_writer.specs.declared.fault.JournalFault.{JournalFault}
use Rattle.failover_writer.specs.declared.fault.Step.{Step}
use Rattle.failover_writer.specs.declared.fault.Step.TheVariants as steps
use Rattle.failover_writer.specs.State.{State, len}

-- an operation that is still to be done counts two: its start and its end
abbrev pub still_to : ℕ → ℕ → ℕ
still_to reached goal = if nat_lt reached goal then 2 else 0

-- what may still happen to a segment, by its phase and by the ends of what it has sent, written and synced: a write where
-- records are not written, a sync where one is wanted, and then the end of what is in flight
abbrev pub rank_in : ℕ → ℕ → Phase → ℕ → ℕ → ℕ → ℕ
rank_in len want New sent written synced = 8
rank_in len want (InFlight Create id) sent written synced = 3 + still_to written len + still_to synced want
rank_in len want (InFlight Write id) sent written synced = 3 + still_to sent len + still_to synced want
rank_in len want (InFlight Sync id) sent written synced = 3 + still_to written len + still_to written want
rank_in len want Idle sent written synced = 2 + still_to written len + still_to synced want
rank_in len want Broken sent written synced = 0

abbrev pub rank : ℕ → ℕ → Writer → ℕ
rank len want w = rank_in len want w.phase w.sent w.written w.synced

abbrev pub ranks : ℕ → ℕ → List Writer → ℕ
ranks len want [] = 0
ranks len want (w ∷ ws) = rank len want w + ranks len want ws

-- what may still happen to the segments begun, and to those that may still be begun
abbrev pub work : State → ℕ
work state = (SEGMENTS_MAX - length state.segments) * 8 + ranks (len state) state.want state.segments

abbrev pub polls_left : DiskView → ℕ
polls_left v = v.polls_left Primary + v.polls_left Secondary

-- The polls that may still be answered pending, and what may still happen to the segments. So many steps at most move or
-- wait, one after another, before one is idle or ends with a fault.
abbrev pub measure : State → DiskView → ℕ
measure state v = polls_left v + work state

-- how often the operation on the current segment was answered pending, since it was started
abbrev pub waited_on_current : List Writer → ℕ
waited_on_current [] = 0
waited_on_current (w ∷ []) = w.waiting
waited_on_current (w ∷ v ∷ writers) = waited_on_current (v ∷ writers)

-- Pending polls, those that were and those that may come: `threshold` for each segment that was left by a stall, those that the
-- current one has waited, and those that are left. No step makes them more.
abbrev pub pending_in_all : State → DiskView → ℕ
pending_in_all state v = state.left_by_stall * state.threshold + waited_on_current state.segments + polls_left v

-- It falls with a step that moves or waits.
abbrev pub Falls : State → State → DiskView → DiskView → Result Step JournalFault → Type 0
Falls old new before after answer = IfOk answer (λ step. step ≢ steps.Idle → measure new after < measure old before)
