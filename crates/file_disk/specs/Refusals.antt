-- What a refusal of the system does to the counts of a disk (docs/formats/disk.md, "The disk").
use Rattle.std.specs.Prelude.{◌≡◌, ◌≢◌, Result, IsErr, IsErrOf}
use Rattle.wal_base.specs.Faults.{Rose, counted}
use Rattle.disk_face.specs.declared.Side.{Side}
use Rattle.disk_face.specs.declared.Progress.{Progress}
use Rattle.disk_face.specs.declared.Progress.TheVariants.{Failed}
use Rattle.disk_face.specs.declared.DiskErr.{DiskErr}
use Rattle.disk_face.specs.declared.DiskErr.TheVariants as err
use Rattle.disk_face.specs.View.{DiskView, Place}
use Rattle.disk_face.specs.Answers.{CountsFailure, CountsNoOther}
use Rattle.file_disk.specs.Paths.{side_of_file}

-- the faults of the other side stay
abbrev pub OtherFaultsStay : Side → DiskView → DiskView → Type 0
OtherFaultsStay side old new = (s : Side) → s ≢ side → new.faults s ≡ old.faults s

-- no fault is counted but that of a refusal, on that side
abbrev pub CountsNoneButRefusal : {T E : Type 0} → Side → Result T E → DiskView → DiskView → Type 0
CountsNoneButRefusal side answer old new = (s : Side) → (IsErr answer × (s ≡ side) → ⊥) → new.faults s ≡ old.faults s

-- a refusal is counted once on that side
abbrev pub CountsRefusal : {T E : Type 0} → Side → Result T E → DiskView → DiskView → Type 0
CountsRefusal side answer old new = IsErr answer → new.faults side ≡ counted (old.faults side)

-- a refusal is answered as a failure, and that side counted it
abbrev pub FailsIfRefused : {T E : Type 0} → Side → Result T E → Progress → DiskView → DiskView → Type 0
FailsIfRefused side answer progress old new = IsErr answer → (progress ≡ Failed) × Rose (old.faults side) (new.faults side)

-- a failure that is answered is counted once on that side
abbrev pub CountsOnce : {T : Type 0} → Side → Result T DiskErr → DiskView → DiskView → Type 0
CountsOnce side answer old new = IsErrOf answer err.Failed → new.faults side ≡ counted (old.faults side)

-- a failure that is answered of a file was counted on its side
abbrev pub CountsFailureOf : {T : Type 0} → Place → Result T DiskErr → DiskView → DiskView → Type 0
CountsFailureOf place = CountsFailure (side_of_file place)

-- no fault is counted but that of a failure that is answered of a file, on its side
abbrev pub CountsNoOtherOf : {T : Type 0} → Place → Result T DiskErr → DiskView → DiskView → Type 0
CountsNoOtherOf place = CountsNoOther (side_of_file place)

-- a failure that is answered of a file is counted once on its side
abbrev pub CountsOnceOf : {T : Type 0} → Place → Result T DiskErr → DiskView → DiskView → Type 0
CountsOnceOf place = CountsOnce (side_of_file place)
