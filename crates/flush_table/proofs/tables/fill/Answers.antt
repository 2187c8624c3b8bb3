use Rattle.std.proofs.Common.{length}
use Rattle.flush_table.proofs.ReadsTables.{reads_one}
use Rattle.flush_table.proofs.tables.fill.Goals as goal

pub returns-clause-asks : goal.returns-clause-asks
returns-clause-asks g c = λ within. reads_one c.args.listed (length c.args.buffer.now) (g.D.Disk.view c.args.disk.now)
    (g.D.Disk.view c.read_table.new.self) c.read_table.ensures.noted within
