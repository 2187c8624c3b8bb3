use Rattle.std.proofs.Common.{◌≡◌, ◌++◌, length, take}
use Rattle.std.specs.List.{flat_map}
use Rattle.wal_top.specs.Dump.{report_lines}
use Rattle.wal_top.proofs.commands.dump.put_reports.Given as goal

abbrev pub invariant-loop-report : goal.invariant-loop-report
invariant-loop-report l = l.text ≡ l.initial.text ++ flat_map report_lines (take (length l.yielded) l.fn.reports)
