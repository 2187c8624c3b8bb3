-- Where nothing was in flight by a number, and what is in flight stayed, nothing is.
use Rattle.std.proofs.Common.{◌≡◌, Option, Some, None, IsSome, refl}
use Rattle.file_disk.specs.declared.directory.Started.{Started}
use Rattle.file_disk.specs.Flights.{flight_as}

pub stays_absent : {F : Type 0} (old new : Option (Started F)) → (IsSome old → ⊥) → flight_as new ≡ flight_as old → new ≡ None
stays_absent old None absent stayed = refl
stays_absent None (Some op) absent stayed = cc
stays_absent (Some it) (Some op) absent stayed = absurd (absent refl)
