use Rattle.mem_disk.specs.Leaving.{AreLeft}
use Rattle.mem_disk.proofs.crash.all_left.Given as goal

abbrev pub invariant-loop-file : goal.invariant-loop-file
invariant-loop-file l = AreLeft l.picks l.yielded l.left.items
