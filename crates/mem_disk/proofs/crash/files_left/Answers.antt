use Rattle.mem_disk.proofs.ListedFiles.{if_ok_more}
use Rattle.mem_disk.proofs.Crashes.{left_files, left_ordered}
use Rattle.mem_disk.proofs.crash.files_left.Goals as goal

pub returns-clause-files : goal.returns-clause-files
returns-clause-files c = if_ok_more c.all_left.result c.all_left.ensures
    (λ left are. left_files c.args.picks.now c.args.files.items left.items are c.requires.ordered)

pub returns-clause-ordered : goal.returns-clause-ordered
returns-clause-ordered c = if_ok_more c.all_left.result c.all_left.ensures
    (λ left are. left_ordered c.args.picks.now c.args.files.items left.items are c.requires.ordered)
