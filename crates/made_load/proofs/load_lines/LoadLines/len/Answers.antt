use Rattle.std.proofs.Common.{length, sym, ap, ◌∙◌}
use Rattle.std.proofs.lemmas.List.FromFn.{length-map-range_with_len}
use Rattle.made_load.specs.EveryNth.{line_at}
use Rattle.made_load.proofs.load_lines.LoadLines.len.Goals as goal

pub returns : goal.returns
returns c = sym (length-map-range_with_len (line_at c.self.inside.batches) 0 c.self.inside.batches.count) ∙ ap length c.self.view_is
