-- Version by version, from the first.
use Rattle.std.proofs.Common.{true, false, Bool, List, Ok, subst}
use Rattle.std.specs.Prelude.{Contains, ◌↔◌}
use Rattle.memtable_shards.specs.Versions.{Version}
use Rattle.memtable_shards.specs.Parts.{settled_in}
use Rattle.memtable_shards.specs.Moving.{SettlesFirst}
use Rattle.memtable_shards.proofs.IsShard.{seen, same_parts, one_settled, settled_alone}
use Rattle.memtable_shards.proofs.shard.Shard.settle.Goals as goal

pub loop-preserved : goal.loop-preserved
loop-preserved c =
    one_settled (seen (settled_in c.self.inside.index.versions c.self.inside.ranges) c.self.inside.waiting)
    (settled_in c.loop.self-inside.index.versions c.loop.self-inside.ranges) c.loop.self-inside.waiting
    (settled_in c.settle_first.new.index.versions c.settle_first.new.ranges) c.settle_first.new.waiting
    (subst (λ (b : Bool). SettlesFirst (settled_in c.loop.self-inside.index.versions c.loop.self-inside.ranges) c.loop.self-inside.waiting (Ok b)
    (settled_in c.settle_first.new.index.versions c.settle_first.new.ranges) c.settle_first.new.waiting) c.if-branch.true c.in_ok-settle_first.ensures)
    c.loop.invariant.0 c.loop.invariant.1

pub returns-in_err-settle_first-clause-same : goal.returns-in_err-settle_first-clause-same
returns-in_err-settle_first-clause-same c v =
    subst (λ (old : List Version). Contains (seen (settled_in c.settle_first.new.index.versions c.settle_first.new.ranges) c.settle_first.new.waiting) v ↔ Contains old v)
    c.self.view_is
    (same_parts (settled_in c.loop.self-inside.index.versions c.loop.self-inside.ranges) c.loop.self-inside.waiting
    (settled_in c.settle_first.new.index.versions c.settle_first.new.ranges) c.settle_first.new.waiting
    (seen (settled_in c.self.inside.index.versions c.self.inside.ranges) c.self.inside.waiting) v
    c.in_err-settle_first.ensures.1 c.in_err-settle_first.ensures.0 (c.loop.invariant.1 v))

pub returns-clause-same : goal.returns-clause-same
returns-clause-same c v =
    let ends = subst (λ (b : Bool). SettlesFirst (settled_in c.loop.self-inside.index.versions c.loop.self-inside.ranges) c.loop.self-inside.waiting (Ok b)
    (settled_in c.settle_first.new.index.versions c.settle_first.new.ranges) c.settle_first.new.waiting) c.if-branch.false c.in_ok-settle_first.ensures in
    subst (λ (old : List Version). Contains (seen (settled_in c.settle_first.new.index.versions c.settle_first.new.ranges) c.settle_first.new.waiting) v ↔ Contains old v)
    c.self.view_is
    (same_parts (settled_in c.loop.self-inside.index.versions c.loop.self-inside.ranges) c.loop.self-inside.waiting
    (settled_in c.settle_first.new.index.versions c.settle_first.new.ranges) c.settle_first.new.waiting
    (seen (settled_in c.self.inside.index.versions c.self.inside.ranges) c.self.inside.waiting) v
    ends.2 ends.1 (c.loop.invariant.1 v))

pub returns-clause-settled : goal.returns-clause-settled
returns-clause-settled c =
    let ends = subst (λ (b : Bool). SettlesFirst (settled_in c.loop.self-inside.index.versions c.loop.self-inside.ranges) c.loop.self-inside.waiting (Ok b)
    (settled_in c.settle_first.new.index.versions c.settle_first.new.ranges) c.settle_first.new.waiting) c.if-branch.false c.in_ok-settle_first.ensures in
    settled_alone c.settle_first.new.index.versions c.settle_first.new.ranges c.settle_first.new.waiting ends.0 c.walk-walk.ensures.ascend
