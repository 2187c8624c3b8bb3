use Rattle.std.proofs.Common.{◌≡◌, ◌++◌, drop}
use Rattle.mem_disk.specs.Mem.{listed_of}
use Rattle.mem_disk.proofs.listing.collect.Given as goal

abbrev pub invariant-loop-file : goal.invariant-loop-file
invariant-loop-file l = l.names ++ listed_of l.side (drop l.file-index l.files) ≡ listed_of l.side l.files
