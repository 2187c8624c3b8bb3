-- What is found in the versions so far.
use Rattle.std.specs.Prelude.{◌≡◌, ◌++◌, List, length}
use Rattle.memtable_shards.specs.Versions.{Version}
use Rattle.memtable_shards.specs.Newest.{FindsNewest}
use Rattle.memtable_shards.proofs.part.find_waiting.Given as goal

abbrev pub invariant-loop-version : goal.invariant-loop-version
invariant-loop-version l = (seen : List Version) × (l.waiting ≡ seen ++ l.rest) × FindsNewest seen l.key l.below l.found

abbrev pub decreases-loop-version : goal.decreases-loop-version
decreases-loop-version l = length l.rest
