use Rattle.std.specs.Prelude.{◌+◌}
use Rattle.commit_pipeline.proofs.tests.played_table.Given as goal

-- the ledger of answers is that of the parts
abbrev pub ghosts-played_names : goal.ghosts-played_names
ghosts-played_names g a = record { name = a.parts.answers; parts = a.parts.sessions + a.parts.sessions }
