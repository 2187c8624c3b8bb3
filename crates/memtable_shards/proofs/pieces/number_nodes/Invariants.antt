-- Those that are numbered, and then those that are not yet.
use Rattle.std.specs.Prelude.{◌≡◌, ◌++◌, length}
use Rattle.memtable_shards.specs.Parts.{counted_from}
use Rattle.memtable_shards.proofs.pieces.number_nodes.Given as goal

abbrev pub invariant-loop-version : goal.invariant-loop-version
invariant-loop-version l = l.numbered ++ counted_from l.first l.nodes ≡ counted_from l.first l.fn.nodes

abbrev pub decreases-loop-version : goal.decreases-loop-version
decreases-loop-version l = length l.nodes
