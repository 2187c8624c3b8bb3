use Rattle.std.proofs.Common.{rules}
use Rattle.made_load.proofs.LoadMade.{lines_more}
use Rattle.made_load.proofs.load_lines.LoadTexts.lines.Goals as goal

pub loop-place-preserved : goal.loop-place-preserved
loop-place-preserved c =
    lines_more c.args.self.now.batches c.loop-place.place c.loop-place.lines c.push.new.self c.in_ok-line.line c.loop-place.invariant
    c.in_ok-line.ensures (search rules)
