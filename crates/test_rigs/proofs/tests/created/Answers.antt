-- Nothing stands on the disk within.
use Rattle.disk_face.specs.declared.Side.TheVariants.{Primary}
use Rattle.disk_face.specs.View.{segment}
use Rattle.test_rigs.proofs.tests.created.Goals as goal

pub create-requires-clause-absent : goal.create-requires-clause-absent
create-requires-clause-absent c told = c.into_disk.ensures.empty (segment Primary (record { wal = 1; index = 0 }))
