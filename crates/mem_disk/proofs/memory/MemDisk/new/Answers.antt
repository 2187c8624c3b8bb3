use Rattle.std.proofs.Common.{List, ap, ◌∙◌}
use Rattle.disk_face.specs.View.{Files}
use Rattle.mem_disk.specs.declared.parts.MemFile.{MemFile}
use Rattle.mem_disk.specs.Mem.{mem_view, files_held}
use Rattle.mem_disk.proofs.memory.MemDisk.new.Goals as goal

pub returns-clause-empty : goal.returns-clause-empty
unfolding mem_view
returns-clause-empty c p = ap (λ (f : Files). f p) c.holding.ensures.kept ∙ ap (λ (l : List MemFile). files_held l p) c.in_ok-files.ensures.items
