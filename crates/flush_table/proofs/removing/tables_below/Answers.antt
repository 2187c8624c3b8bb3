use Rattle.std.proofs.Common.{ltb, rules}
use Rattle.std.proofs.lemmas.List.Sorted.{IsPartitionPoint-from_clause}
use Rattle.disk_face.specs.declared.TableListed.{TableListed}
use Rattle.flush_table.proofs.TablesBelow.{partitioned, taken_below, taken_all}
use Rattle.flush_table.proofs.removing.tables_below.Goals as goal

pub returns-clause-below : goal.returns-clause-below
returns-clause-below c =
    let tables = c.args.tables.now in
    taken_below tables c.args.upto c.requires.ascending c.partition_point-place.result
    (IsPartitionPoint-from_clause (λ (item : TableListed). ltb item.upto c.args.upto) _ _ c.partition_point-place.ensures.partitioned
    (partitioned tables c.args.upto c.requires.ascending) (λ a r q k. search rules))

pub returns-clause-all : goal.returns-clause-all
returns-clause-all c =
    let tables = c.args.tables.now in
    taken_all tables c.args.upto c.requires.ascending c.partition_point-place.result
    (IsPartitionPoint-from_clause (λ (item : TableListed). ltb item.upto c.args.upto) _ _ c.partition_point-place.ensures.partitioned
    (partitioned tables c.args.upto c.requires.ascending) (λ a r q k. search rules))
