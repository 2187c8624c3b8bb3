-- What a frame says follows from what its batch is.
use Rattle.std.proofs.Common.{◌≡◌, ◌≢◌, ℕ, ◌<◌, List, refl, sym, subst}
use Rattle.batch_repr.specs.declared.batch.Batch.{Batch}
use Rattle.batch_repr.specs.declared.fault.BatchFault.{BatchFault}
use Rattle.batch_repr.specs.declared.fault.BatchFault.TheVariants as batch_faults
use Rattle.batch_repr.specs.Batches.{count_of}
use Rattle.batch_repr.specs.Returned.{MemoryOr}
use Rattle.wal_ship.specs.declared.frame.Frame.{Frame}
use Rattle.wal_ship.specs.declared.frame.Frame.TheVariants as frames
use Rattle.wal_ship.specs.Following.{IsFrameOf, next_after}
use Rattle.wal_ship.specs.Following.ShowsFault.{wrong_next}
use Rattle.wal_ship.specs.Taking.{Judges, Reads}

pub judged : (known : List Batch) (at : ℕ) (bytes : List ℕ) (batch : Batch) (said : Frame) → IsFrameOf bytes batch → Judges known at batch said
    → Reads known at bytes said
judged known at bytes batch frames.Begun f h = absurd h
judged known at bytes batch frames.End f h = absurd h
judged known at bytes batch frames.Known f h = (batch, f, h)
judged known at bytes batch (frames.New new) f h =
    subst (λ (b : Batch). IsFrameOf bytes b × (0 < count_of b.entries) × (b.first ≡ next_after known)) (sym h.0) (f, h.1, h.2)
judged known at bytes batch (frames.Wrong fault) f h = wrong_next bytes batch fault f h

-- a fault that is not want of memory
pub fault_of : (P : BatchFault → Type 0) (fault : BatchFault) → fault ≢ batch_faults.NoMemory → MemoryOr P fault → P fault
fault_of P batch_faults.ShortHeader ne h = h
fault_of P (batch_faults.ShortEntry at) ne h = h
fault_of P (batch_faults.BadVarint at) ne h = h
fault_of P (batch_faults.TooLong at) ne h = h
fault_of P (batch_faults.UnknownKind at kind) ne h = h
fault_of P (batch_faults.Count said found) ne h = h
fault_of P (batch_faults.SeqRange first) ne h = h
fault_of P batch_faults.NoMemory ne h = absurd (ne refl)
