use Rattle.commit_queue.proofs.pipe_table.PipeTable.place.Given as goal

abbrev pub ghosts-store_batch : goal.ghosts-store_batch
ghosts-store_batch a = record { batch = a.batch.now }
