-- Nothing is settled, and nothing waits.
use Rattle.std.proofs.Common.{List, sym, subst}
use Rattle.std.specs.Prelude.{Contains}
use Rattle.wal_base.proofs.Laws.{none_within}
use Rattle.memtable_shards.specs.Versions.{Version}
use Rattle.memtable_shards.specs.Parts.{MayWait}
use Rattle.memtable_shards.proofs.MayWait.{none_wait}
use Rattle.memtable_shards.proofs.shard.Shard.new.Goals as goal

pub invariant_of-result : goal.invariant_of-result
invariant_of-result c = record {
  ready = subst MayWait (sym c.new-3.ensures) none_wait;
  apart = λ one other h k. absurd (none_within other (subst (λ (l : List Version). Contains l other) c.new-3.ensures k));
}
