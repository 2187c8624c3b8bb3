-- So many first bytes are the same.
use Rattle.std.proofs.Common.{◌≡◌, ◌≤◌, ◌-◌, length, take}
use Rattle.arena_list.proofs.lead.shared_len.Given as goal

abbrev pub invariant-loop-shared : goal.invariant-loop-shared
invariant-loop-shared l = record {
  within : l.shared ≤ length l.key;
  too : l.shared ≤ length l.other;
  same : take l.shared l.key ≡ take l.shared l.other;
}

abbrev pub decreases-loop-shared : goal.decreases-loop-shared
decreases-loop-shared l = length l.key - l.shared
