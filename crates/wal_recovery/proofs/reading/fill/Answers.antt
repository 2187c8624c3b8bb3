use Rattle.std.proofs.Common.{length}
use Rattle.wal_recovery.proofs.ReadsOnly.{reads_one}
use Rattle.wal_recovery.proofs.reading.fill.Goals as goal

pub returns-clause-asks : goal.returns-clause-asks
returns-clause-asks g c = λ within. reads_one c.args.segment (length c.args.buffer.now) (g.D.Disk.view c.args.disk.now)
    (g.D.Disk.view c.read.new.self) c.read.ensures.noted within
