use Rattle.std.proofs.Common.{drop}
use Rattle.std.specs.Prelude.{◌↔◌}
use Rattle.mem_disk.specs.Sent.{AreFilesSent}
use Rattle.mem_disk.proofs.chance.are_files_sent.Given as goal

abbrev pub invariant-loop-file : goal.invariant-loop-file
invariant-loop-file l = AreFilesSent l.picks (drop l.file-index l.files) ↔ AreFilesSent l.picks l.files
