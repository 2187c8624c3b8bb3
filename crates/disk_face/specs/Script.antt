-- A disk that stalls polls by itself, over another one (docs/formats/disk.md, "The disk").
use Rattle.std.specs.Prelude.{◌≡◌, ◌≢◌, ℕ, ◌+◌, ◌-◌, ◌^◌, ◌≤◌, min, Bool, List, [], ◌∷◌}
use Rattle.disk_face.specs.declared.Side.{Side}
use Rattle.disk_face.specs.declared.OpId.{OpId}
use Rattle.disk_face.specs.declared.Progress.{Progress}
use Rattle.disk_face.specs.declared.Progress.TheVariants.{Pending}
use Rattle.disk_face.specs.View.{DiskView, Call, was_polled, by_side}
use Rattle.disk_face.specs.declared.by_side.BySide.{BySide}
use Rattle.disk_face.specs.Calls.{GoesOn, Polled}

-- a disk that stalls polls by itself: the disk within, how many polls it is still to answer by itself, and the calls made of it
pub record ScriptedDisk (Disk : Type 0) : Type 0 where
  pub inner : Disk
  pub polls : BySide
  pub calls : List Call

-- the inner disk, with so many polls more left to stall, and the calls that were made of the outer one
abbrev pub stalled : DiskView → ℕ → ℕ → List Call → DiskView
stalled v primary secondary calls = record v { polls_left = λ side. by_side primary secondary side + v.polls_left side; calls = calls }

-- The calls of a disk within and of the one over it, the last ones first: each was passed on, but for polls that the outer one
-- answered pending by itself.
pub data ArePassedOn : List Call → List Call → Type 0 where
  none : ArePassedOn [] []
  passed : (call : Call) (inner outer : List Call) → ArePassedOn inner outer → ArePassedOn (call ∷ inner) (call ∷ outer)
  held : (id : OpId) (inner outer : List Call) → ArePassedOn inner outer → ArePassedOn inner (was_polled id Pending ∷ outer)

-- One disk tells what the other tells, but may have more polls left to stall, and was asked for polls that it answered by itself.
pub record TellsOf (inner outer : DiskView) : Type 0 where
  pub faults : outer.faults ≡ inner.faults
  pub in_flight : outer.in_flight ≡ inner.in_flight
  pub clock : outer.clock ≡ inner.clock
  pub history : outer.history ≡ inner.history
  pub polls : (side : Side) → inner.polls_left side ≤ outer.polls_left side
  pub calls : ArePassedOn inner.calls outer.calls

-- One disk is made over another: it stalls nothing by itself yet, and was asked for all that the disk within was.
pub record BeginsOver (inner outer : DiskView) : Type 0 where
  pub tells : TellsOf inner outer
  pub polls : (side : Side) → outer.polls_left side ≡ inner.polls_left side
  pub calls : outer.calls ≡ inner.calls

-- the own polls of one side are raised, up to the last value
pub record RaisesOwnPolls (side : Side) (polls : ℕ) (old new : Side → ℕ) : Type 0 where
  pub raised : new side ≡ min (old side + polls) (2 ^ 64 - 1)
  pub others : (s : Side) → s ≢ side → new s ≡ old s

-- The poll is answered by the disk itself: pending, one own poll of that side is taken, and the disk within stays as it was.
pub record AnswersItself (side : Side) (own_old own_new : Side → ℕ) (within_old within_new : DiskView) (answer : Progress) : Type 0 where
  pub pending : answer ≡ Pending
  pub taken : own_new side + 1 ≡ own_old side
  pub others : (s : Side) → s ≢ side → own_new s ≡ own_old s
  pub within : within_new ≡ within_old

-- The poll is passed on: the own polls stay, the disk within is asked once, and the answer is its own.
pub record PassesPollOn (tells : Bool) (id : OpId) (own_old own_new : Side → ℕ) (within_old within_new : DiskView) (answer : Progress) : Type 0 where
  pub own : own_new ≡ own_old
  pub goes_on : GoesOn within_old within_new
  pub polled : Polled tells id within_old within_new answer
  pub once : within_new.calls ≡ was_polled id answer ∷ within_old.calls
