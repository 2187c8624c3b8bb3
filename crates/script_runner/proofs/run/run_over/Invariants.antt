use Rattle.script_runner.specs.Works.{work_rounds}
use Rattle.script_runner.specs.Runs.{run_opening}
use Rattle.script_runner.proofs.run.run_over.Given as goal

-- the table, and what the pipeline is made of
abbrev pub ghosts-over_table-N-PipeName : goal.ghosts-over_table-N-PipeName
ghosts-over_table-N-PipeName g a = record {
  table = a.parts.table;
  queue = a.parts.queue;
  opening = run_opening g.D.Disk.view a.parts.base (work_rounds a.work) a.journal;
}

-- the ledger of batches is that of the parts
abbrev pub ghosts-over_table-N-Ledger : goal.ghosts-over_table-N-Ledger
ghosts-over_table-N-Ledger g a = record { name = a.parts.batches; parts = a.parts.sessions }
