use Rattle.std.proofs.Common.{◌≤◌, ltb, List, Contains, sym, subst, rules}
use Rattle.std.proofs.lemmas.List.{take_rest}
use Rattle.std.proofs.lemmas.List.Sorted.{IsPartitionPoint-from_clause}
use Rattle.disk_face.specs.declared.SegName.{SegName}
use Rattle.disk_face.specs.declared.Listed.{Listed}
use Rattle.disk_face.specs.Asked.{length_among}
use Rattle.wal_recovery.proofs.NamesFrom.{partitioned, kept_low, kept_all, kept_shorter}
use Rattle.wal_recovery.proofs.listing.names_from.Goals as goal

pub returns-clause-from : goal.returns-clause-from
returns-clause-from c =
    let names = c.args.names.now in
    let place = c.partition_point-place.result in
    subst (λ (l : List Listed). (item : Listed) → Contains l item → c.args.least ≤ item.name.wal) (sym (take_rest names place))
    (kept_low names c.args.least c.requires place
    (IsPartitionPoint-from_clause (λ (item : Listed). ltb item.name.wal c.args.least) _ _ c.partition_point-place.ensures.partitioned
    (partitioned names c.args.least c.requires) (λ a r q k. search rules)))

pub returns-clause-all : goal.returns-clause-all
returns-clause-all c =
    let names = c.args.names.now in
    let place = c.partition_point-place.result in
    subst (λ (l : List Listed). (item : Listed) → Contains names item → c.args.least ≤ item.name.wal → Contains l item) (sym (take_rest names place))
    (kept_all names c.args.least c.requires place
    (IsPartitionPoint-from_clause (λ (item : Listed). ltb item.name.wal c.args.least) _ _ c.partition_point-place.ensures.partitioned
    (partitioned names c.args.least c.requires) (λ a r q k. search rules)))

pub returns-clause-shorter : goal.returns-clause-shorter
returns-clause-shorter c =
    let names = c.args.names.now in
    let place = c.partition_point-place.result in
    subst (λ (l : List Listed). (name : SegName) → length_among name l ≤ length_among name names) (sym (take_rest names place))
    (kept_shorter names c.args.least c.requires place
    (IsPartitionPoint-from_clause (λ (item : Listed). ltb item.name.wal c.args.least) _ _ c.partition_point-place.ensures.partitioned
    (partitioned names c.args.least c.requires) (λ a r q k. search rules)))
