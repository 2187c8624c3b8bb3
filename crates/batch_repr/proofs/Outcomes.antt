-- How an outcome stands in the clauses of a call.
use Rattle.std.proofs.Common.{◌≡◌, ◌≢◌, ℕ, ◌+◌, ◌-◌, ◌<◌, List, [], ◌++◌, length, take, drop, sym, ap, ◌∙◌, arith}
use Rattle.std.proofs.lemmas.List.{drop_at, take_rest}
use Rattle.wal_base.specs.declared.entry.Entry.{Entry}
use Rattle.batch_repr.specs.declared.limits.TheConstants.{NUMBER_MAX}
use Rattle.batch_repr.specs.Batches.{count_of}
use Rattle.batch_repr.specs.declared.fault.BatchFault.{BatchFault}
use Rattle.batch_repr.specs.declared.fault.BatchFault.TheVariants as faults
use Rattle.batch_repr.specs.Reading.{IsFirstFault, Splits, first_said, count_said}
use Rattle.batch_repr.specs.Returned.{MemoryOr}
use Rattle.batch_repr.specs.Reading.IsFirstFault.{other_count, past_numbers}

-- a fact of each fault holds of out of memory or of the fault
pub memory_or : (P Q : BatchFault → Type 0) (fault : BatchFault) → ((f : BatchFault) → P f → Q f) → MemoryOr P fault → MemoryOr Q fault
memory_or P Q faults.NoMemory h p = tt
memory_or P Q faults.ShortHeader h p = h faults.ShortHeader p
memory_or P Q (faults.ShortEntry at) h p = h (faults.ShortEntry at) p
memory_or P Q (faults.BadVarint at) h p = h (faults.BadVarint at) p
memory_or P Q (faults.TooLong at) h p = h (faults.TooLong at) p
memory_or P Q (faults.UnknownKind at kind) h p = h (faults.UnknownKind at kind) p
memory_or P Q (faults.Count said found) h p = h (faults.Count said found) p
memory_or P Q (faults.SeqRange first) h p = h (faults.SeqRange first) p

pub is_other_count : (bytes : List ℕ) (entries : List Entry) (said found : ℕ) → Splits bytes entries [] → said ≡ count_said bytes
    → found ≡ count_of entries → said ≢ found → IsFirstFault bytes (faults.Count said found)
is_other_count bytes entries said found splits p q ne = rw (p, q) (other_count entries splits (λ e. ne (p ∙ e ∙ sym q)))

pub is_past : (bytes : List ℕ) (entries : List Entry) (first said found : ℕ) → Splits bytes entries [] → first ≡ first_said bytes
    → said ≡ count_said bytes → found ≡ count_of entries → said ≡ found → NUMBER_MAX < first + found
    → IsFirstFault bytes (faults.SeqRange first)
is_past bytes entries first said found splits f p q e past =
    rw f (past_numbers entries splits (sym p ∙ e ∙ q) (omega (arith, f, q, past)))

-- what was added to a list is what stands behind the old one
pub behind_is : (old read new all : List Entry) (from : ℕ) → new ≡ old ++ read → all ≡ new → from ≡ length old
    → take (length all - from) (drop from all) ≡ read
behind_is old read new all from added same begins =
    take_rest all from ∙ ap (drop from) (same ∙ added) ∙ drop_at old read from (sym begins)
