use Rattle.std.proofs.Common.{◌≡◌, ◌++◌, drop}
use Rattle.mem_disk.specs.Mem.{tables_of}
use Rattle.mem_disk.proofs.listing.collect_tables.Given as goal

abbrev pub invariant-loop-file : goal.invariant-loop-file
invariant-loop-file l = l.tables ++ tables_of (drop l.file-index l.files) ≡ tables_of l.files
