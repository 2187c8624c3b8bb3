-- What a reader answers, beside what the bytes say. Out of memory may take the place of any answer (docs/formats/log.md, "Reading a batch").
use Rattle.std.specs.Prelude.{◌≡◌, Result, Ok, Err}
use Rattle.batch_repr.specs.declared.fault.BatchFault.{BatchFault}
use Rattle.batch_repr.specs.declared.fault.BatchFault.TheVariants as faults

-- It is what reading gives, seen by view.
abbrev pub Gives : {X Y E : Type 0} → (X → Y) → Result X E → Result Y E → Type 0
Gives view (Ok x) read = read ≡ Ok (view x)
Gives view (Err e) read = read ≡ Err e

-- Reading gives this fault, unless memory ran out.
abbrev pub FailsAs : {Y : Type 0} → BatchFault → Result Y BatchFault → Type 0
FailsAs faults.NoMemory read = Unit {0}
FailsAs fault read = read ≡ Err fault

-- It is what reading gives, seen by view, unless memory ran out.
abbrev pub GivesOrMemory : {X Y : Type 0} → (X → Y) → Result X BatchFault → Result Y BatchFault → Type 0
GivesOrMemory view (Ok x) read = read ≡ Ok (view x)
GivesOrMemory view (Err fault) read = FailsAs fault read

-- The fault is out of memory, or this holds of it.
abbrev pub MemoryOr : (BatchFault → Type 0) → BatchFault → Type 0
MemoryOr P faults.NoMemory = Unit {0}
MemoryOr P fault = P fault

-- It is this value, unless memory ran out.
abbrev pub OkOrMemory : {X : Type 0} → Result X BatchFault → X → Type 0
OkOrMemory (Ok x) y = x ≡ y
OkOrMemory (Err faults.NoMemory) y = Unit {0}
OkOrMemory (Err fault) y = ⊥

-- It is this fault, unless memory ran out.
abbrev pub ErrOrMemory : {X : Type 0} → Result X BatchFault → BatchFault → Type 0
ErrOrMemory (Ok x) g = ⊥
ErrOrMemory (Err faults.NoMemory) g = Unit {0}
ErrOrMemory (Err fault) g = fault ≡ g
