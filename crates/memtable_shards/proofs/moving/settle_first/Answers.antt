-- The first one is of a range, or of a key.
use Rattle.std.proofs.Common.{◌∷◌, true, false, List, refl, sym, ap, ◌∙◌, subst}
use Rattle.arena_list.specs.Versions.{KeyVersion}
use Rattle.range_cover.specs.declared.mark.RangeMark.{RangeMark}
use Rattle.memtable_shards.specs.Versions.{Version}
use Rattle.memtable_shards.specs.Parts.{settled_in, HasOneMore, LacksNumber}
use Rattle.memtable_shards.specs.Moving.{PutsRange}
use Rattle.memtable_shards.proofs.IsShard.{first_waits, first_absent, room_same}
use Rattle.memtable_shards.proofs.moving.settle_first.Goals as goal

pub returns-then-branch : goal.returns-then-branch
returns-then-branch c = record {
  version = c.in-Some.version.now;
  first = first_waits c.args.waiting.now c.in-Some.version.now (c.in-Some.ensures.variant.0 refl) c.in-Some.ensures.lookup
      ∙ ap (λ (l : List Version). c.in-Some.version.now ∷ l) (sym c.pop_front.ensures.rest);
  added =
      (subst (PutsRange c.args.ranges.now c.in-Some.version.now c.put_range.new.ranges) c.if-branch.true c.in_ok-put_range.ensures.put).1 c.args.index.now.versions;
}

pub put_key-requires-clause-absent : goal.put_key-requires-clause-absent
put_key-requires-clause-absent c = (
  c.args.ranges.now,
  subst (λ (index : List KeyVersion). LacksNumber (settled_in index c.args.ranges.now) c.in-Some-pop_front.version.number)
      (sym (room_same c.args.index.now c.reserve_one.new.self c.in_ok-reserve_one.ensures.room))
      (first_absent (settled_in c.args.index.now.versions c.args.ranges.now) c.args.waiting.now c.pop_front-2.new.self c.in-Some-pop_front.version
      c.in-Some-pop_front.ensures.items c.requires.shard),
)

pub returns : goal.returns
returns c =
    let key = subst (PutsRange c.args.ranges.now c.in-Some.version.now c.put_range.new.ranges) c.if-branch.false c.in_ok-put_range.ensures.put in
    record {
      version = c.in-Some-pop_front.version;
      first = c.in-Some-pop_front.ensures.items;
      added = subst (λ (ranges : List RangeMark). HasOneMore (settled_in c.args.index.now.versions c.args.ranges.now) c.in-Some-pop_front.version
          (settled_in c.put_key.new.index.versions ranges)) (sym key.1)
          (subst (λ (index : List KeyVersion). HasOneMore (settled_in index c.args.ranges.now) c.in-Some-pop_front.version
          (settled_in c.put_key.new.index.versions c.args.ranges.now))
          (room_same c.args.index.now c.reserve_one.new.self c.in_ok-reserve_one.ensures.room) (c.put_key.ensures c.args.ranges.now));
    }
