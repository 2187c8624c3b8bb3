use Rattle.std.proofs.Common.{take}
use Rattle.block_record.specs.ReadOut.{bytes_of}
use Rattle.table_text.specs.Reading.{ReadsBack}
use Rattle.table_text.proofs.reading.read_batches.Given as goal

abbrev pub invariant-loop-rec : goal.invariant-loop-rec
invariant-loop-rec l = ReadsBack (bytes_of (take l.rec-index l.records)) l.reader
