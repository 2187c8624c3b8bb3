use Rattle.std.specs.Prelude.{◌+◌}
use Rattle.uses_sessions.proofs.with_table.Given as goal

-- the ledger of answers is that of the parts
abbrev pub ghosts-with_names : goal.ghosts-with_names
ghosts-with_names g a = record { name = a.parts.answers; parts = a.parts.sessions + a.parts.sessions }
