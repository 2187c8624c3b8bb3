-- What decoding the records of a segment answers (docs/formats/journal.md, "Recovery").
use Rattle.std.specs.Prelude.{◌≡◌, ℕ}
use Rattle.batch_repr.specs.declared.fault.BatchFault.{BatchFault}
use Rattle.batch_repr.specs.Reading.{IsFirstFault}
use Rattle.block_record.specs.declared.records.Rec.{Rec}
use Rattle.wal_recovery.specs.declared.decoding.DecodeFault.{DecodeFault}
use Rattle.wal_recovery.specs.declared.decoding.DecodeFault.TheVariants as decodes

-- The fault is out of memory, or this holds of the place and of what is wrong there.
abbrev pub BadOrMemory : (ℕ → BatchFault → Type 0) → DecodeFault → Type 0
BadOrMemory P (decodes.Bad place fault) = P place fault
BadOrMemory P decodes.NoMemory = Unit {0}

-- This is wrong with the record, which stands there.
abbrev pub IsBadAt : Rec → ℕ → BatchFault → Type 0
IsBadAt whole place fault = (place ≡ whole.at) × IsFirstFault whole.bytes fault
