use Rattle.std.proofs.Common.{◌≡◌, map}
use Rattle.std.specs.Map.Iter.{deref_pair}
use Rattle.file_disk.specs.Found.{found_as}
use Rattle.file_disk.proofs.order.gather.Given as goal

abbrev pub invariant-loop-upto : goal.invariant-loop-upto
invariant-loop-upto l = l.tables ≡ map found_as (map deref_pair l.yielded)
