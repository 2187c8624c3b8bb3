-- What recovery answers, by its mode. A fault of the disk or out of memory may take the place of any answer (docs/formats/journal.md, "Recovery").
use Rattle.std.specs.Prelude.{◌≡◌, ℕ, List, Result, Ok, Err}
use Rattle.batch_repr.specs.declared.batch.Batch.{Batch}
use Rattle.wal_base.specs.Faults.{Rose}
use Rattle.disk_face.specs.View.{Dirs, DiskView}
use Rattle.wal_recovery.specs.declared.reports.Mode.{Mode}
use Rattle.wal_recovery.specs.declared.reports.Mode.TheVariants.{Strict, Lenient}
use Rattle.wal_recovery.specs.declared.reports.Recovered.{Recovered}
use Rattle.wal_recovery.specs.declared.fault.RecoverFault.{RecoverFault}
use Rattle.wal_recovery.specs.declared.fault.RecoverFault.TheVariants as faults
use Rattle.wal_recovery.specs.Recovering.{Recovers, RecoversLenient, RecoversLenientAfter}
use Rattle.wal_recovery.specs.Base.{front_of, RecoversOnto}
use Rattle.wal_recovery.specs.Refused.{IsRefused, IsRefusedFrom, IsLenientlyRefused, IsLenientlyRefusedAfter}

-- The directories recover to these batches where those of a base stand before. Where no gap is accepted their segments are merged
-- from this number on and stand behind the base; where gaps are accepted they are merged with it.
abbrev pub RecoversByFrom : Mode → ℕ → List Batch → Dirs → List Batch → Type 0
RecoversByFrom Strict first base dirs batches = RecoversOnto first base dirs batches
RecoversByFrom Lenient first base dirs batches = RecoversLenientAfter (front_of base) dirs batches

-- the directories are refused there
abbrev pub IsRefusedByFrom : Mode → ℕ → List Batch → Dirs → RecoverFault → Type 0
IsRefusedByFrom Strict first base dirs fault = IsRefusedFrom first dirs fault
IsRefusedByFrom Lenient first base dirs fault = IsLenientlyRefusedAfter (front_of base) dirs fault

-- the same, from the first number of all, with no batch before it
abbrev pub RecoversBy : Mode → Dirs → List Batch → Type 0
RecoversBy Strict dirs merged = Recovers dirs merged
RecoversBy Lenient dirs merged = RecoversLenient dirs merged

abbrev pub IsRefusedBy : Mode → Dirs → RecoverFault → Type 0
IsRefusedBy Strict dirs fault = IsRefused dirs fault
IsRefusedBy Lenient dirs fault = IsLenientlyRefused dirs fault

-- A fault of a side comes only where that side's count rose.
abbrev pub FaultRose : DiskView → DiskView → RecoverFault → Type 0
FaultRose old new (faults.Disk side) = Rose (old.faults side) (new.faults side)
FaultRose old new fault = Unit {0}

-- No count of faults rose.
abbrev pub NoFaultRose : DiskView → DiskView → Type 0
NoFaultRose old new = new.faults ≡ old.faults

-- The fault is the disk's or out of memory, or this holds of it.
abbrev pub DiskMemoryOr : (RecoverFault → Type 0) → RecoverFault → Type 0
DiskMemoryOr P (faults.Disk side) = Unit {0}
DiskMemoryOr P faults.NoMemory = Unit {0}
DiskMemoryOr P fault = P fault

-- It is these batches, unless the disk failed or memory ran out.
abbrev pub OkOrFailed : Result Recovered RecoverFault → List Batch → Type 0
OkOrFailed (Ok found) merged = found.batches ≡ merged
OkOrFailed (Err (faults.Disk side)) merged = Unit {0}
OkOrFailed (Err faults.NoMemory) merged = Unit {0}
OkOrFailed (Err fault) merged = ⊥

-- It is this refusal, unless the disk failed or memory ran out.
abbrev pub ErrOrFailed : Result Recovered RecoverFault → RecoverFault → Type 0
ErrOrFailed (Ok found) refusal = ⊥
ErrOrFailed (Err (faults.Disk side)) refusal = Unit {0}
ErrOrFailed (Err faults.NoMemory) refusal = Unit {0}
ErrOrFailed (Err fault) refusal = fault ≡ refusal

-- The directories are refused: the fault is neither a side's nor out of memory.
abbrev pub IsRefusal : RecoverFault → Type 0
IsRefusal (faults.Disk side) = ⊥
IsRefusal faults.NoMemory = ⊥
IsRefusal fault = Unit {0}
