-- What a merge answers, where out of memory may take the place of any answer (docs/formats/journal.md, "Merging").
use Rattle.std.specs.Prelude.{◌≡◌, List, Result, Ok, Err}
use Rattle.batch_repr.specs.declared.batch.Batch.{Batch}
use Rattle.segment_merge.specs.declared.fault.MergeFault.{MergeFault}
use Rattle.segment_merge.specs.declared.fault.MergeFault.TheVariants as faults

-- It is this list, unless memory ran out.
abbrev pub MergedOrMemory : Result (List Batch) MergeFault → List Batch → Type 0
MergedOrMemory (Ok kept) merged = kept ≡ merged
MergedOrMemory (Err faults.NoMemory) merged = Unit {0}
MergedOrMemory (Err fault) merged = ⊥

-- It is this fault, unless memory ran out.
abbrev pub RefusedOrMemory : Result (List Batch) MergeFault → MergeFault → Type 0
RefusedOrMemory (Ok kept) other = ⊥
RefusedOrMemory (Err faults.NoMemory) other = Unit {0}
RefusedOrMemory (Err fault) other = fault ≡ other

-- The fault is out of memory, or this holds of it.
abbrev pub MemoryOrRefusal : (MergeFault → Type 0) → MergeFault → Type 0
MemoryOrRefusal P faults.NoMemory = Unit {0}
MemoryOrRefusal P fault = P fault

-- It is no gap.
abbrev pub IsNoGap : MergeFault → Type 0
IsNoGap (faults.Gap index expected found) = ⊥
IsNoGap fault = Unit {0}
