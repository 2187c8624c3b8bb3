use Rattle.std.proofs.Common.{List, sym, subst}
use Rattle.std.specs.Prelude.{IfOk}
use Rattle.disk_face.specs.View.{Files}
use Rattle.disk_face.specs.Listing.{IsListing}
use Rattle.mem_disk.specs.declared.parts.MemFile.{MemFile}
use Rattle.mem_disk.specs.Mem.{mem_view, files_held}
use Rattle.mem_disk.proofs.Calls.{files_now}
use Rattle.mem_disk.proofs.memory.MemDiskDisk.list.Goals as goal

pub returns-clause-names : goal.returns-clause-names
unfolding mem_view
returns-clause-names c =
    subst (λ (f : Files). IfOk c.list_files-answer.result (IsListing f c.args.side))
    (sym (files_now c.args.self.now.moments.past c.args.self.now.files.items))
    (subst (λ (l : List MemFile). IfOk c.list_files-answer.result (IsListing (files_held l) c.args.side)) c.deref.ensures.value
    c.list_files-answer.ensures.listed)
