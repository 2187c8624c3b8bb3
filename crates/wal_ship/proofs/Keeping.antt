-- What a follower keeps of a frame.
use Rattle.std.proofs.Common.{◌≡◌, ◌≢◌, inl, inr, ℕ, ◌+◌, ◌≤◌, Some, List, [], ◌++◌, length, refl, arith, length-append}
use Rattle.batch_repr.specs.declared.batch.Batch.{Batch}
use Rattle.wal_ship.specs.declared.fault.FollowFault.{FollowFault}
use Rattle.wal_ship.specs.declared.fault.FollowFault.TheVariants as faults
use Rattle.wal_ship.specs.declared.follower.Course.{Course}
use Rattle.wal_ship.specs.declared.follower.Course.TheVariants.{Open, Ended, Wrong}
use Rattle.wal_ship.specs.Following.{IsWrongNext, ShowsFault}
use Rattle.wal_ship.specs.Following.IsWrongNext.{gap, conflict}
use Rattle.wal_ship.specs.Following.ShowsFault.{too_long, wrong_sum, no_batch, wrong_next, past_end}
use Rattle.wal_ship.specs.Course.{fault_in}
use Rattle.wal_ship.specs.Taking.{IsKeptFrame, KeepsFrame, Leads, PassesFrame}

-- no bytes show want of memory

next_shows : (known : List Batch) (at : ℕ) (batch : Batch) (fault : FollowFault) → IsWrongNext known at batch fault → fault ≢ faults.NoMemory
next_shows known at batch _ (gap some above) e = absurd cc
next_shows known at batch _ (conflict some below other) e = absurd cc

shows : (known : List Batch) (at : ℕ) (bytes : List ℕ) (fault : FollowFault) → ShowsFault known at bytes fault → fault ≢ faults.NoMemory
shows known at _ _ (too_long head four past) e = absurd cc
shows known at _ _ (wrong_sum frame full other) e = absurd cc
shows known at _ _ (no_batch text fault some size first) e = absurd cc
shows known at _ _ (wrong_next frame batch fault f w) e = next_shows known at batch fault w e
shows known at _ _ (past_end byte) e = absurd cc

led_fault : (old new : List Batch) (at : ℕ) (bytes : List ℕ) (course : Course) → Leads old new at bytes (Some course)
    → fault_in course ≢ Some faults.NoMemory
led_fault old new at bytes Open l e = absurd cc
led_fault old new at bytes Ended l e = absurd cc
led_fault old new at bytes (Wrong fault) l e = let same : fault ≡ faults.NoMemory = cc in shows old at bytes fault l.0 same

keeps_none : (course : Course) → KeepsFrame course []
keeps_none Open = tt
keeps_none Ended = refl
keeps_none (Wrong fault) = refl

open_fault : fault_in Open ≢ Some faults.NoMemory
open_fault e = absurd cc

-- after a portion
pub kept_after : (old new : List Batch) (at : ℕ) (frame more kept : List ℕ) (course : Course) (fed count : ℕ) → 8 ≤ fed → length frame ≤ fed
    → length more ≤ count → PassesFrame old new at (frame ++ more) kept course → IsKeptFrame kept (fed + count) course
kept_after old new at frame more kept course fed count late behind few (inl (l, k, c)) = rw (k, c) (record {
  begun = l.0;
  behind = omega (arith, length-append frame more, behind, few);
  early = λ lt. absurd (omega (arith, late, lt));
  kept = tt;
  fault = open_fault;
})
kept_after old new at frame more kept course fed count late behind few (inr (l, k)) = rw k (record {
  begun = inl (omega arith);
  behind = omega arith;
  early = λ lt. absurd (omega (arith, late, lt));
  kept = keeps_none course;
  fault = led_fault old new at (frame ++ more) course l;
})
