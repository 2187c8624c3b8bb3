-- The exit status of the program (docs/formats/program.md, "Statuses").
use Rattle.std.specs.Prelude.{ℕ}
use Rattle.wal_top.specs.declared.status.Status.{Status}
use Rattle.wal_top.specs.declared.status.Status.TheVariants.{Done, Usage, Script, Read, Write, Disk, Refused, NoMemory, Limit}

abbrev pub code_of : Status → ℕ
code_of Done = 0
code_of Usage = 1
code_of Script = 2
code_of Read = 3
code_of Write = 4
code_of Disk = 5
code_of Refused = 6
code_of NoMemory = 7
code_of Limit = 8
