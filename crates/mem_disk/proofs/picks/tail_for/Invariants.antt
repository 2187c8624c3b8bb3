use Rattle.std.proofs.Common.{◌≡◌, drop}
use Rattle.mem_disk.specs.Picks.{tail_of}
use Rattle.mem_disk.proofs.picks.tail_for.Given as goal

abbrev pub invariant-loop-pick : goal.invariant-loop-pick
invariant-loop-pick l = tail_of (drop l.pick-index l.picks) l.place ≡ tail_of l.picks l.place
