-- One edge is in hand, a place is free for it, and fewer edges are behind it.
use Rattle.std.specs.Prelude.{◌-◌, ◌^◌, ◌<◌, ◌≤◌}
use Rattle.arena_list.specs.Versions.{AscendVersions}
use Rattle.range_cover.specs.Steps.{IsMarkHeld, count_behind}
use Rattle.range_cover.proofs.edges.raise.Given as goal

abbrev pub invariant-loop-next : goal.invariant-loop-next
invariant-loop-next l = record {
  held : IsMarkHeld l.fn.edges.versions l.edges.versions l.held.key l.held.top l.mark;
  free : 0 < l.edges.free;
  ascend : AscendVersions l.edges.versions;
  fits : l.held.top ≤ 2 ^ 64 - 1;
}

abbrev pub decreases-loop-next : goal.decreases-loop-next
decreases-loop-next l = count_behind l.held.key l.edges.versions
