-- Entry by entry: its version goes to the list of its shard.
use Rattle.std.proofs.Common.{Option, length, take, refl, ap, arith, rules}
use Rattle.std.proofs.lemmas.List.{append-nil, length_push}
use Rattle.std.proofs.lemmas.Iterator.Consumers.{YieldsList-turn}
use Rattle.std.proofs.lemmas.Iterator.Adapters.{YieldsList-from_vec}
use Rattle.std.specs.Option.{option_to_list}
use Rattle.memtable_shards.specs.Versions.{Version, versions_from}
use Rattle.memtable_shards.proofs.Cutting.{entry_more}
use Rattle.memtable_shards.proofs.pieces.sort_versions.Goals as goal

pub loop-entry-init : goal.loop-entry-init
unfolding versions_from
loop-entry-init c = (c.empty_lists-lists.ensures.eight, refl, c.empty_lists-lists.ensures.own)

pub loop-entry-preserved-in-Some-version_of : goal.loop-entry-preserved-in-Some-version_of
loop-entry-preserved-in-Some-version_of c =
    let i = length c.loop-entry.yielded in
    let turn = YieldsList-turn (YieldsList-from_vec {s = c.into_iter-entry-iterator.result} c.args.entries (search rules) (search rules))
    c.loop-entry.yielded c.loop-entry.entry-iterator c.loop-entry.yielded_by c.next.result c.next.new.self c.in-Some.entry c.in-Some.is c.next.ensures.steps in
    let more = entry_more c.args.entries i c.in-Some.entry c.loop-entry.number c.version_of.result turn.1 turn.0 c.loop-entry.invariant.1 c.version_of.ensures in
    rw length_push (
      c.add_version.ensures.eight,
      omega (arith, more.1, ap (λ (v : Option Version). length (option_to_list v)) c.in-Some-version_of.is),
      rw (more.0, c.in-Some-version_of.is) (c.in_ok-add_version.ensures.added (versions_from 0 (take i c.args.entries)) c.loop-entry.invariant.2),
    )

pub loop-entry-preserved : goal.loop-entry-preserved
loop-entry-preserved c =
    let i = length c.loop-entry.yielded in
    let turn = YieldsList-turn (YieldsList-from_vec {s = c.into_iter-entry-iterator.result} c.args.entries (search rules) (search rules))
    c.loop-entry.yielded c.loop-entry.entry-iterator c.loop-entry.yielded_by c.next.result c.next.new.self c.in-Some.entry c.in-Some.is c.next.ensures.steps in
    let more = entry_more c.args.entries i c.in-Some.entry c.loop-entry.number c.version_of.result turn.1 turn.0 c.loop-entry.invariant.1 c.version_of.ensures in
    rw length_push (
      c.loop-entry.invariant.0,
      omega (arith, more.1, ap (λ (v : Option Version). length (option_to_list v)) c.in_default.is),
      rw (more.0, c.in_default.is, append-nil) c.loop-entry.invariant.2,
    )
