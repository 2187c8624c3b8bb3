-- A poll ends the operation, and then either is done or counts a fault.
use Rattle.std.proofs.Common.{◌≡◌, false, Result, Ok, Err, refl, ap, ◌∙◌}
use Rattle.std.specs.Prelude.{IsOk, IsErr}
use Rattle.wal_base.specs.Faults.{Rose}
use Rattle.disk_face.specs.declared.OpId.{OpId}
use Rattle.disk_face.specs.declared.Progress.{Progress}
use Rattle.disk_face.specs.declared.Progress.TheVariants.{Done, Failed}
use Rattle.disk_face.specs.View.{DiskView}
use Rattle.disk_face.specs.Calls.{GoesOn, SameDisk, Ends, Polled}
use Rattle.disk_face.proofs.Laws.{rose_later}

-- what ends before nothing else happens has ended
ends_still : (id : OpId) (old mid new : DiskView) → Ends id old mid → SameDisk mid new → Ends id old new
ends_still id old mid new ends same = record {
  gone = ap (λ (f : OpId → _). f id) same.in_flight
      ∙ ends.gone;
  others = λ q apart. ap (λ (f : OpId → _). f q) same.in_flight ∙ ends.others q apart;
}

-- an operation that was ended, and then was done or has failed by what the system answered
pub ended_poll : {E : Type 0} (id : OpId) (old mid new : DiskView) (answer : Result (Unit {0}) E) (progress : Progress) → GoesOn old mid
    → Ends id old mid → SameDisk mid new
    → (IsOk answer → progress ≡ Done) → (IsErr answer → (progress ≡ Failed) × Rose (mid.faults id.side) (new.faults id.side)) → Polled false id old new progress
ended_poll id old mid new (Ok x) progress goes ends same done failed = rw (done refl)
    (record { ends = ends_still id old mid new ends same; file = λ told f is. cc })
ended_poll id old mid new (Err e) progress goes ends same done failed =
    let (is, rose) = failed refl in
    rw is (record {
      ends = ends_still id old mid new ends same;
      rose = rose_later (old.faults id.side) (mid.faults id.side)
          (new.faults id.side) (goes.faults id.side) rose;
      file = λ told f is. cc;
    })
