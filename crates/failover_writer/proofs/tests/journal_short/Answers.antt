-- Nothing stands on an empty disk, so nothing was sent to a segment.
use Rattle.std.proofs.Common.{sym, subst}
use Rattle.disk_face.specs.View.{segment}
use Rattle.log_writer.specs.Fits.{IsUnsent}
use Rattle.failover_writer.specs.Ranges.{side_at}
use Rattle.failover_writer.proofs.tests.journal_short.Goals as goal

pub start-requires-clause-absent : goal.start-requires-clause-absent
start-requires-clause-absent c told index low high = subst IsUnsent
    (sym (c.into_disk-disk.ensures.empty (segment (side_at index) (record { wal = 1; index = index })))) (tt, λ f is. cc)
