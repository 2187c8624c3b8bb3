-- By the kind of the entry.
use Rattle.std.proofs.Common.{rules}
use Rattle.memtable_shards.specs.Versions.{versions_from}
use Rattle.memtable_shards.proofs.pieces.version_of.Goals as goal

pub returns-in-Set : goal.returns-in-Set
unfolding versions_from
returns-in-Set c = search rules

pub returns-in-Delete : goal.returns-in-Delete
unfolding versions_from
returns-in-Delete c = search rules

pub returns-in-Note : goal.returns-in-Note
unfolding versions_from
returns-in-Note c = search rules

pub returns : goal.returns
unfolding versions_from
returns c = search rules
