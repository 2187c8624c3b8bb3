use Rattle.batch_repr.proofs.Written.{batch_spelled}
use Rattle.batch_repr.proofs.numbered.Numbered.bytes.Goals as goal

pub returns-clause-spells : goal.returns-clause-spells
returns-clause-spells c = rw (c.as_slice.ensures.value, ← c.self.view_is) (batch_spelled c.self.inside.bytes.items _ c.self.inside.count c.self.invariant)
