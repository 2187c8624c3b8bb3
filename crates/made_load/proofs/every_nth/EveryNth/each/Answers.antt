use Rattle.std.proofs.Common.{arith}
use Rattle.made_load.specs.Load.{load_line}
use Rattle.made_load.proofs.EveryNth.{in_a_row}
use Rattle.made_load.proofs.every_nth.EveryNth.each.Goals as goal

pub returns : goal.returns
returns c = in_a_row (load_line c.args.seed) c.args.from c.args.from 0 c.args.count (omega arith)
