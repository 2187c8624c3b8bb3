use Rattle.std.proofs.Common.{◌≡◌, ◌≤◌, ◌-◌, All, length, take}
use Rattle.wal_recovery.specs.declared.listing.Found.{Found}
use Rattle.wal_recovery.proofs.wals.count_own.Given as goal

abbrev pub invariant-loop-count : goal.invariant-loop-count
invariant-loop-count l = (l.count ≤ length l.row) × All (λ (f : Found). f.name.wal ≡ l.number) (take l.count l.row)

abbrev pub decreases-loop-count : goal.decreases-loop-count
decreases-loop-count l = length l.row - l.count
