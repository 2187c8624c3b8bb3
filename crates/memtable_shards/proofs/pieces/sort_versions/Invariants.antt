-- The versions of the entries so far.
use Rattle.std.specs.Prelude.{◌≡◌, length, take}
use Rattle.batch_repr.specs.Batches.{count_of}
use Rattle.memtable_shards.specs.declared.sharding.TheConstants.{SHARDS}
use Rattle.memtable_shards.specs.Versions.{versions_from}
use Rattle.memtable_shards.specs.Parts.{AreByShard}
use Rattle.memtable_shards.proofs.pieces.sort_versions.Given as goal

abbrev pub invariant-loop-entry : goal.invariant-loop-entry
invariant-loop-entry l = (length l.lists ≡ SHARDS) × (l.number ≡ count_of (take (length l.yielded) l.fn.entries)) × AreByShard
    (versions_from 0 (take (length l.yielded) l.fn.entries)) l.lists
