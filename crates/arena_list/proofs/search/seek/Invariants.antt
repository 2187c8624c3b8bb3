-- The levels that are done are cut, the others are as they were made, and the search may go on along the next one.
use Rattle.std.proofs.Common.{◌≡◌, ◌-◌, ◌<◌, ◌≤◌, ℕ, length, slice_index}
use Rattle.arena_list.specs.declared.node.TheConstants.{LEVELS}
use Rattle.arena_list.specs.Steps.{IsCut, MayGoOn, MayStop}
use Rattle.arena_list.proofs.search.seek.Given as goal

abbrev pub invariant-loop-level : goal.invariant-loop-level
invariant-loop-level l = record {
  within : l.level ≤ l.height;
  len : length l.lasts ≡ LEVELS;
  cuts : (level : ℕ) → l.level ≤ level → level < l.height → IsCut l.nodes level l.sought.key.now l.sought.number (slice_index l.lasts level);
  heads : (level : ℕ) → l.height ≤ level → slice_index l.lasts level ≡ 0;
  goes : 0 < l.level → MayGoOn l.nodes (l.level - 1) l.sought.key.now l.sought.number l.stop.last;
  stops : MayStop l.nodes l.sought.key.now l.sought.number l.stop.next;
}

abbrev pub decreases-loop-level : goal.decreases-loop-level
decreases-loop-level l = l.level
