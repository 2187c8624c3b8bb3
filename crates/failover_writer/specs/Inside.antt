-- What a journal keeps of its own numbers. Nothing of it is seen from outside.
use Rattle.disk_face.specs.declared.names.TheConstants.{WAL_MAX}
use Rattle.std.specs.Prelude.{◌≡◌, ℕ, ◌≤◌, ◌-◌, Bool, length, take}
use Rattle.disk_face.specs.View.{DiskView}
use Rattle.failover_writer.specs.State.{State, acked, broken_count}
use Rattle.failover_writer.specs.Ranges.{Stands}
use Rattle.failover_writer.specs.Stepping.{NoneBusy}
use Rattle.failover_writer.specs.Sound.{IsSoundJournal}

-- The numbers that a journal counts by itself are those of its segments, and it holds some records.
pub record IsInOrder (tells : Bool) (state : State) (v : DiskView) (acked_so_far rested_to failures : ℕ) : Type 0 where
  pub stands : Stands tells state v
  pub acked : acked_so_far ≡ acked state
  pub failed : failures ≡ broken_count state
  pub rested : NoneBusy (take rested_to state.segments)
  pub first_busy : rested_to ≤ length state.segments - 1
  pub wal : state.wal ≤ WAL_MAX
  pub sound : IsSoundJournal state
