use Rattle.std.proofs.Common.{arith}
use Rattle.crc_chunk.proofs.Entries.{entry_at}
use Rattle.crc_chunk.proofs.table.entry.Goals as goal

pub returns : goal.returns
returns c = rw c.from.ensures (entry_at c.args.behind c.args.low c.requires (omega arith))
