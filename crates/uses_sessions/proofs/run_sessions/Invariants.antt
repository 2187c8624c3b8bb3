use Rattle.std.specs.Prelude.{false}
use Rattle.commit_pipeline.specs.Openings.{opening_on}
use Rattle.uses_sessions.proofs.run_sessions.Given as goal

-- the table, and what the pipeline is made of
abbrev pub ghosts-with_table-N-PipeName : goal.ghosts-with_table-N-PipeName
ghosts-with_table-N-PipeName g a = record { table = a.parts.table; queue = a.parts.queue; opening = opening_on g.D.Disk.view a.parts.base a.journal false }

-- the ledger of batches is that of the parts
abbrev pub ghosts-with_table-N-Ledger : goal.ghosts-with_table-N-Ledger
ghosts-with_table-N-Ledger g a = record { name = a.parts.batches; parts = a.parts.sessions }
