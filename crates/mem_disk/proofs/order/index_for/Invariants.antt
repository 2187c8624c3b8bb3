use Rattle.std.proofs.Common.{◌≡◌, ◌≤◌, ◌-◌, ◌++◌, length, take, drop}
use Rattle.mem_disk.specs.declared.parts.MemFile.{MemFile}
use Rattle.mem_disk.specs.Mem.{put}
use Rattle.mem_disk.proofs.order.index_for.Given as goal

abbrev pub invariant-loop-at : goal.invariant-loop-at
invariant-loop-at l = (l.at ≤ length l.files.items) × ((m : MemFile) → m.place ≡ l.place
    → put m l.files.items ≡ take l.at l.files.items ++ put m (drop l.at l.files.items))

abbrev pub decreases-loop-at : goal.decreases-loop-at
decreases-loop-at l = length l.files.items - l.at
