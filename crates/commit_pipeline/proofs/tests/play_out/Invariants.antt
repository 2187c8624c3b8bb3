use Rattle.std.specs.Prelude.{true}
use Rattle.commit_pipeline.proofs.tests.play_out.Given as goal
use Rattle.commit_pipeline.specs.Openings.{opening_on}

-- the table, and what the pipeline is made of
abbrev pub ghosts-played_table-N-PipeName : goal.ghosts-played_table-N-PipeName
ghosts-played_table-N-PipeName g a = record { table = a.parts.table; queue = a.parts.queue; opening = opening_on g.D.Disk.view a.parts.base a.journal true }

-- the ledger of batches is that of the parts
abbrev pub ghosts-played_table-N-Ledger : goal.ghosts-played_table-N-Ledger
ghosts-played_table-N-Ledger g a = record { name = a.parts.batches; parts = a.parts.sessions }
