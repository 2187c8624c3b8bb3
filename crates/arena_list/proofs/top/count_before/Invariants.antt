-- What stands before the one index goes before what is sought, and what stands from the other one on does not.
use Rattle.std.proofs.Common.{◌-◌, ◌<◌, ◌≤◌, length, slice_index}
use Rattle.arena_list.specs.Versions.{GoesBefore}
use Rattle.arena_list.specs.Nodes.{version_at}
use Rattle.arena_list.specs.Tops.{places_of}
use Rattle.arena_list.proofs.top.count_before.Given as goal

abbrev pub invariant-loop-low : goal.invariant-loop-low
invariant-loop-low l = record {
  ordered : l.low ≤ l.high;
  within : l.high ≤ length l.top;
  early : 0 < l.low → GoesBefore (version_at l.nodes (slice_index (places_of l.top) (l.low - 1))) l.sought.key.now l.sought.number;
  late : l.high < length l.top → GoesBefore (version_at l.nodes (slice_index (places_of l.top) l.high)) l.sought.key.now l.sought.number → ⊥;
}

abbrev pub decreases-loop-low : goal.decreases-loop-low
decreases-loop-low l = l.high - l.low
