use Rattle.std.proofs.Common.{◌≡◌, ℕ, List, Option, Result, IfOk, sym, subst}
use Rattle.memtable_shards.specs.Newest.{value_found}
use Rattle.wal_base.specs.declared.error.NoMemory.{NoMemory}
use Rattle.shard_gate.specs.Gates.{ReadsNewest}
use Rattle.shard_gate.proofs.ReadsNewest.{gives_same, if_ok_more, if_ok_still, reads_newest}
use Rattle.shard_gate.proofs.gate.ShardGate.try_newest.Goals.{in-Ok, in-Err}
use Rattle.shard_gate.proofs.gate.ShardGate.try_newest.Goals as goal

pub give_shard-requires-clause-gives : goal.give_shard-requires-clause-gives
give_shard-requires-clause-gives c =
    gives_same c.args.s.now.seat.me.0 c.take_shard.new.h.seat.me.0 c.shard_index.result c.in-Some.taken c.settle.new.self
    c.in-Some.ensures.taken c.settle.ensures.same

pub returns-clause-read : goal.returns-clause-read
returns-clause-read c = if_ok_still c.match-settle.value c.map_err.result Reads _ c.map_err.ensures.cases
    (elim c.match-settle.branch [
      | in-Ok w ↦ subst (λ (r : Result (Option (List ℕ)) NoMemory). IfOk r Reads) (sym w.value-is)
          (if_ok_more w.value_of-value.result (λ value. value ≡ value_found w.newest.result) Reads
          (λ value is. reads_newest c.args.s.now.seat.me.0 c.take_shard.new.h.seat.me.0 c.give_shard.new.h.seat.me.0 c.args.key.now
          c.args.below c.shard_index.result c.in-Some.taken c.settle.new.self w.newest.result value c.shard_index.ensures.shard
          c.in-Some.ensures.taken c.settle.ensures.same w.newest.ensures is c.give_shard.ensures.ended) w.value_of-value.ensures)
      | in-Err w ↦ subst (λ (r : Result (Option (List ℕ)) NoMemory). IfOk r Reads) (sym w.value-is) tt
    ])
  where
    Reads : Option (List ℕ) → Type 0
    Reads value = ReadsNewest c.args.s.now.seat.me.0 c.args.key.now c.args.below value c.give_shard.new.h.seat.me.0
