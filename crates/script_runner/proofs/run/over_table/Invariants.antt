use Rattle.std.specs.Prelude.{◌+◌}
use Rattle.script_runner.proofs.run.over_table.Given as goal

-- the ledger of answers is that of the parts
abbrev pub ghosts-over_names : goal.ghosts-over_names
ghosts-over_names g a = record { name = a.parts.answers; parts = a.parts.sessions + a.parts.sessions }
