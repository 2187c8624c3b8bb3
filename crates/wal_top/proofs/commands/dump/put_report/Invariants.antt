use Rattle.std.proofs.Common.{◌≡◌, ◌++◌, length, take}
use Rattle.std.specs.List.{flat_map}
use Rattle.text_lines.specs.Lines.{batch_lines}
use Rattle.wal_top.proofs.commands.dump.put_report.Given as goal

abbrev pub invariant-loop-batch : goal.invariant-loop-batch
invariant-loop-batch l = l.text ≡ l.initial.text ++ flat_map batch_lines (take (length l.yielded) l.fn.report.batches)
