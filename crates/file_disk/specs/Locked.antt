-- The directories from which a disk keeps others out (docs/formats/disk.md, "The disk").
use Rattle.std.specs.Prelude.{◌≡◌, Option, Some}
use Rattle.disk_face.specs.declared.Side.{Side}
use Rattle.disk_face.specs.declared.Side.TheVariants.{Primary, Secondary}
use Rattle.file_disk.specs.declared.locks.Locks.{Locks}

-- a lock that was held is held still, by the same open directory
abbrev pub StaysLocked : {F : Type 0} → Option F → Option F → Type 0
StaysLocked {F} old new = (file : F) → old ≡ Some file → new ≡ Some file

-- each lock that was held is held still
pub record KeepsLocks {F : Type 0} (old new : Locks F) : Type 0 where
  pub folder : StaysLocked old.folder new.folder
  pub primary : StaysLocked old.primary new.primary
  pub secondary : StaysLocked old.secondary new.secondary

-- the lock on the directory of the other side is as it was
abbrev pub OtherLockStays : {F : Type 0} → Side → Locks F → Locks F → Type 0
OtherLockStays Primary old new = new.secondary ≡ old.secondary
OtherLockStays Secondary old new = new.primary ≡ old.primary

-- no directory was locked
abbrev pub LocksNoDirectory : {F : Type 0} → Locks F → Locks F → Type 0
LocksNoDirectory old new = (new.primary ≡ old.primary) × (new.secondary ≡ old.secondary)
