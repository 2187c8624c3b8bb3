use Rattle.ring_bench.proofs.ring_run.run.Given as goal

-- the table's name is that of the table
abbrev pub ghosts-over_table : goal.ghosts-over_table
ghosts-over_table g a = record { table = a.table.table.shared.table_id }
