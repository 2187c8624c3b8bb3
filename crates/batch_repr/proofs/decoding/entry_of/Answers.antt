use Rattle.batch_repr.proofs.EndsWith.{ends_after_one}
use Rattle.batch_repr.proofs.decoding.entry_of.Goals as goal

pub part_of-requires : goal.part_of-requires
part_of-requires c = ends_after_one c.args.text.now _ _ _ c.requires c.in-Some.ensures.cases.0

pub part_of-requires-in-1 : goal.part_of-requires-in-1
part_of-requires-in-1 c = ends_after_one c.args.text.now _ _ _ c.requires c.in-Some.ensures.cases.0

pub part_of-requires-in-3 : goal.part_of-requires-in-3
part_of-requires-in-3 c = ends_after_one c.args.text.now _ _ _ c.requires c.in-Some.ensures.cases.0

pub part_of-requires-in-15 : goal.part_of-requires-in-15
part_of-requires-in-15 c = ends_after_one c.args.text.now _ _ _ c.requires c.in-Some.ensures.cases.0
