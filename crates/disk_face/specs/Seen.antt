-- The disks of this crate, as contracts see them (docs/formats/disk.md, "The disk").
use Rattle.std.specs.Prelude.{◌≡◌, ℕ, ◌<◌, Bool, None, Result}
use Rattle.disk_face.specs.declared.Side.{Side}
use Rattle.disk_face.specs.declared.OpId.{OpId}
use Rattle.disk_face.specs.declared.DiskOp.{DiskOp}
use Rattle.disk_face.specs.declared.Progress.{Progress}
use Rattle.disk_face.specs.declared.no_disk.NoDisk.{NoDisk}
use Rattle.disk_face.specs.View.{DiskView}
use Rattle.disk_face.specs.BySide.{on_side}
use Rattle.disk_face.specs.Answers.{SendsIfStarted}
use Rattle.disk_face.specs.Script.{ScriptedDisk, stalled, AnswersItself, PassesPollOn}

-- a disk that keeps nothing
abbrev pub bare : NoDisk → DiskView
bare d = record {
  faults = λ s. 0;
  polls_left = on_side d.polls;
  in_flight = λ id. None;
  clock = 0;
  history = λ k p. None;
  calls = d.log.calls;
}

-- the disk within, by what a disk of its kind means
abbrev pub within : {D : Type 0} → (D → DiskView) → ScriptedDisk D → DiskView
within view d = view d.inner

-- how many polls the outer disk is still to answer by itself, by side
abbrev pub own_polls_of : {D : Type 0} → ScriptedDisk D → Side → ℕ
own_polls_of d = on_side d.polls

-- the outer disk: it means the disk within, with its own polls more left to stall, and its own calls
abbrev pub outer : {D : Type 0} → (D → DiskView) → ScriptedDisk D → DiskView
outer view d = stalled (view d.inner) d.polls.primary d.polls.secondary d.calls

-- this holds of what the outer disk meant, and of what it means now
abbrev pub Outside : {D : Type 0} → (D → DiskView) → (DiskView → DiskView → Type 0) → ScriptedDisk D → ScriptedDisk D → Type 0
Outside view Goes old new = Goes (outer view old) (outer view new)

-- this holds of what the disk within meant, and of what it means now
abbrev pub Inside : {D : Type 0} → (D → DiskView) → (DiskView → DiskView → Type 0) → ScriptedDisk D → ScriptedDisk D → Type 0
Inside view Goes old new = Goes (within view old) (within view new)

-- the polls that the outer disk answers itself stay
abbrev pub OwnPollsStay : {D : Type 0} → ScriptedDisk D → ScriptedDisk D → Type 0
OwnPollsStay old new = own_polls_of new ≡ own_polls_of old

-- while the side has own polls left, the outer disk answers itself
abbrev pub AnswersWhileOwn : {D : Type 0} → (D → DiskView) → Side → ScriptedDisk D → ScriptedDisk D → Progress → Type 0
AnswersWhileOwn view side old new answer =
    0 < own_polls_of old side → AnswersItself side (own_polls_of old) (own_polls_of new) (within view old) (within view new) answer

-- where the side has no own poll left, the poll is passed on
abbrev pub PassesOnElse : {D : Type 0} → (D → DiskView) → Bool → OpId → ScriptedDisk D → ScriptedDisk D → Progress → Type 0
PassesOnElse view tells id old new answer =
    own_polls_of old id.side ≡ 0 → PassesPollOn tells id (own_polls_of old) (own_polls_of new) (within view old) (within view new) answer

-- an operation that was not refused has sent to its file, as the outer disk sees it
abbrev pub OuterSends : {D E : Type 0} → (D → DiskView) → Bool → DiskOp → Result OpId E → ScriptedDisk D → ScriptedDisk D → Type 0
OuterSends view tells op result old new = SendsIfStarted tells op result (outer view old) (outer view new)
