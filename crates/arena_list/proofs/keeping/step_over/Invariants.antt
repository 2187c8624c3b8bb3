-- The levels below are done, and the others are as they were.
use Rattle.std.proofs.Common.{◌≡◌, ℕ, ◌≤◌, length, slice_index}
use Rattle.arena_list.specs.declared.node.TheConstants.{LEVELS}
use Rattle.arena_list.specs.Keeping.{StepsOver}
use Rattle.arena_list.proofs.keeping.step_over.Given as goal

abbrev pub invariant-loop-level : goal.invariant-loop-level
invariant-loop-level l = record {
  len : length l.lasts ≡ LEVELS;
  done : StepsOver l.nodes l.fn.lasts l.place l.level l.lasts;
  same : (level : ℕ) → l.level ≤ level → slice_index l.lasts level ≡ slice_index l.fn.lasts level;
}
