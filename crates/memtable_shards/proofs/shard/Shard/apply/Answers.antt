-- The versions that wait stay few, so that they can be linked; and all have numbers of their own.
use Rattle.std.proofs.Common.{◌≡◌, true, false, List, sym, subst, arith}
use Rattle.std.specs.Prelude.{Contains}
use Rattle.memtable_shards.specs.Versions.{Version}
use Rattle.memtable_shards.specs.Versions.{Gains, HaveOtherNumbers}
use Rattle.memtable_shards.specs.Parts.{settled_in, MayWait}
use Rattle.memtable_shards.proofs.MayWait.{few_versions, wait_both}
use Rattle.memtable_shards.proofs.IsShard.{seen, seen_waiting, linked_gains, linked_apart}
use Rattle.memtable_shards.proofs.shard.Shard.apply.Goals as goal

pub unreachable-requires : goal.unreachable-requires
unreachable-requires c =
    let fails : false ≡ true = c.in-Err.ensures.succeeds
    (omega (arith, few_versions c.self.inside.waiting c.self.invariant.ready, few_versions c.piece.inside.nodes c.piece.invariant)) in cc

pub invariant_of-self : goal.invariant_of-self
invariant_of-self c =
    let index : List Version = settled_in c.self.inside.index.versions c.self.inside.ranges in
    let waiting : List Version = c.self.inside.waiting in
    let apart : HaveOtherNumbers (seen index waiting) c.piece.inside.nodes =
    (λ x y h k. c.requires.apart x y (subst (λ (vs : List Version). Contains vs x) c.self.view_is h)
    (subst (λ (vs : List Version). Contains vs y) c.piece.view_is k)) in
    record {
      ready = subst MayWait (sym c.in-Ok.ensures.items) (wait_both waiting c.piece.inside.nodes c.self.invariant.ready c.piece.invariant
          (λ x y h k. apart x y (seen_waiting index waiting x h) k));
      apart = linked_apart index waiting c.piece.inside.nodes c.append.new.self c.in-Ok.ensures.items c.self.invariant.apart apart;
    }

pub returns : goal.returns
returns c =
    let index : List Version = settled_in c.self.inside.index.versions c.self.inside.ranges in
    subst (λ (old : List Version). Gains old c.args.piece (seen index c.append.new.self)) c.self.view_is
    (subst (λ (more : List Version). Gains (seen index c.self.inside.waiting) more (seen index c.append.new.self)) c.piece.view_is
    (linked_gains index c.self.inside.waiting c.piece.inside.nodes c.append.new.self c.in-Ok.ensures.items))
