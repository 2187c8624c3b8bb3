-- So many shards, all empty.
use Rattle.std.specs.Prelude.{◌≡◌, ◌≤◌, [], List, length}
use Rattle.std.specs.List.{AllByRecursion}
use Rattle.memtable_shards.specs.declared.sharding.TheConstants.{SHARDS}
use Rattle.memtable_shards.specs.Versions.{Version}
use Rattle.memtable_shards.proofs.tests.new_shards.Given as goal

abbrev pub invariant-loop : goal.invariant-loop
invariant-loop g l = (length l.shards.items ≡ l.counter) × (l.counter ≤ SHARDS) × AllByRecursion (λ (list : List Version). list ≡ []) l.shards.items
