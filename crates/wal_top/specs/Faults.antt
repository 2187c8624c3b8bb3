-- What is said of a fault of recovery. Nothing of it is seen from outside.
use Rattle.std.specs.Prelude.{◌≡◌, ℕ, List}
use Rattle.wal_recovery.specs.declared.fault.RecoverFault.{RecoverFault}
use Rattle.wal_recovery.specs.declared.fault.RecoverFault.TheVariants as faults
use Rattle.wal_top.specs.declared.status.Status.{Status}
use Rattle.wal_top.specs.declared.status.Status.TheVariants.{Disk, Refused}
use Rattle.wal_top.specs.Recovery.{disk_fault_text, refusal_text}

-- A fault of a side is told by the side, and a refusal by its line. Out of memory is not told so.
abbrev pub SaysFault : RecoverFault → Status → List ℕ → Type 0
SaysFault (faults.Disk side) status text = (status ≡ Disk) × (text ≡ disk_fault_text side)
SaysFault faults.NoMemory status text = ⊥
SaysFault fault status text = (status ≡ Refused) × (text ≡ refusal_text fault)
