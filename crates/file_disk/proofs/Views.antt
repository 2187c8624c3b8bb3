-- A disk over files means the same where its directories counted the same faults and have the same operations in flight; and
-- what counting a failure says of such a disk.
use Rattle.std.proofs.Common.{◌≡◌, ℕ, List, None, Result, refl, subst}
use Rattle.disk_face.specs.declared.Side.{Side}
use Rattle.disk_face.specs.declared.Side.TheVariants.{Primary, Secondary}
use Rattle.disk_face.specs.declared.DiskErr.{DiskErr}
use Rattle.disk_face.specs.View.{DiskView, Call, by_side}
use Rattle.disk_face.specs.Calls.{GoesOn}
use Rattle.disk_face.specs.Answers.{CountsFailure, CountsNoOther}
use Rattle.file_disk.specs.declared.directory.Directory.{Directory}
use Rattle.file_disk.specs.Flights.{SameFlights, directory_of, flight_numbered, file_view}
use Rattle.file_disk.specs.Refusals.{CountsOnce}

pub primary_same : {F : Type 0} (old new other : Directory F) (calls : List Call) → new.faults ≡ old.faults → SameFlights old new
    → file_view new other calls ≡ file_view old other calls
primary_same {F} old new other calls faults flights = λ i. record {
  faults = by_side (faults i) other.faults;
  polls_left = λ side. 0;
  in_flight = λ id. each id.side id.number i;
  clock = 0;
  history = λ k p. None;
  calls = calls;
}
  where
    each : (side : Side) (n : ℕ) → flight_numbered (directory_of new other side) n ≡ flight_numbered (directory_of old other side) n
    each Primary n = flights n
    each Secondary n = refl

pub secondary_same : {F : Type 0} (old new other : Directory F) (calls : List Call) → new.faults ≡ old.faults → SameFlights old new
    → file_view other new calls ≡ file_view other old calls
secondary_same {F} old new other calls faults flights = λ i. record {
  faults = by_side other.faults (faults i);
  polls_left = λ side. 0;
  in_flight = λ id. each id.side id.number i;
  clock = 0;
  history = λ k p. None;
  calls = calls;
}
  where
    each : (side : Side) (n : ℕ) → flight_numbered (directory_of other new side) n ≡ flight_numbered (directory_of other old side) n
    each Primary n = refl
    each Secondary n = flights n

pub goes_from : (old mid new : DiskView) (calls : List Call) → mid ≡ old → GoesOn mid new → GoesOn old (record new { calls = calls })
goes_from old mid new calls same goes =
    let from = subst (λ (v : DiskView). GoesOn v new) same goes in
    record { faults = from.faults; polls = from.polls; clock = from.clock; history = from.history }

-- `goes` tells the callers' views, so that they need not write them out.
module _ {T : Type 0} (at side : Side) (result : Result T DiskErr) (old mid new : DiskView) (is : side ≡ at) (same : mid ≡ old) (goes : GoesOn mid new) where
  pub failure_from : CountsFailure side result mid new → CountsFailure at result old new
  failure_from counts = subst (λ (s : Side). CountsFailure s result old new) is (subst (λ (v : DiskView). CountsFailure side result v new) same counts)

  pub no_other_from : CountsNoOther side result mid new → CountsNoOther at result old new
  no_other_from counts = subst (λ (s : Side). CountsNoOther s result old new) is (subst (λ (v : DiskView). CountsNoOther side result v new) same counts)

  pub once_from : CountsOnce side result mid new → CountsOnce at result old new
  once_from counts = subst (λ (s : Side). CountsOnce s result old new) is (subst (λ (v : DiskView). CountsOnce side result v new) same counts)
