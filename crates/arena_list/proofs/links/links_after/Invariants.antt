-- The links below the level are copied.
use Rattle.std.proofs.Common.{◌≡◌, ◌<◌, ℕ, length, slice_index}
use Rattle.arena_list.specs.declared.node.TheConstants.{LEVELS}
use Rattle.arena_list.specs.Nodes.{next_on}
use Rattle.arena_list.proofs.links.links_after.Given as goal

abbrev pub invariant-loop-level : goal.invariant-loop-level
invariant-loop-level l = record {
  len : length l.links ≡ LEVELS;
  copied : (level : ℕ) → level < l.level → slice_index l.links level ≡ next_on l.nodes level (slice_index l.lasts level);
}
