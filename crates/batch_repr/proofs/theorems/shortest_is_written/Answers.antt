use Rattle.batch_repr.proofs.Written.{varint_spells}
use Rattle.batch_repr.proofs.Shortest.{varint_shortest}
use Rattle.batch_repr.proofs.theorems.shortest_is_written.Goals as goal

pub returns-clause-spells : goal.returns-clause-spells
returns-clause-spells c = varint_spells

pub returns-clause-shortest : goal.returns-clause-shortest
returns-clause-shortest c = varint_shortest
