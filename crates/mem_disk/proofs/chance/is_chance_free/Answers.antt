use Rattle.mem_disk.proofs.ListedFiles.{if_ok_more}
use Rattle.mem_disk.proofs.Chances.{free_iff_sent}
use Rattle.mem_disk.proofs.chance.is_chance_free.Goals as goal

pub returns : goal.returns
returns c =
    let same = free_iff_sent c.args.picks.now c.args.files.now c.requires.ordered in
    if_ok_more c.are_files_sent.result c.are_files_sent.ensures (λ sent is. ((λ t. same.0 (is.0 t)), (λ free. is.1 (same.1 free))))
