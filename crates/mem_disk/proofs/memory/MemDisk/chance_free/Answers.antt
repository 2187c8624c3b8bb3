use Rattle.std.proofs.Common.{List, sym, subst}
use Rattle.std.specs.Prelude.{IfOk, IsTrue, ◌↔◌}
use Rattle.disk_face.specs.View.{Files}
use Rattle.disk_face.specs.Image.{IsChanceFree}
use Rattle.crc_chunk.specs.Chunk.{IsChunkOf}
use Rattle.mem_disk.specs.declared.parts.MemFile.{MemFile}
use Rattle.mem_disk.specs.declared.picks.FilePick.{FilePick}
use Rattle.mem_disk.specs.Mem.{mem_view, files_held}
use Rattle.mem_disk.specs.Picks.{picked_dirs}
use Rattle.mem_disk.proofs.Calls.{files_now}
use Rattle.mem_disk.proofs.memory.MemDisk.chance_free.Goals as goal

pub returns : goal.returns
unfolding mem_view
returns c =
    subst (λ (f : Files). IfOk c.is_chance_free.result (λ free. IsTrue free ↔ IsChanceFree IsChunkOf f
    (picked_dirs f c.args.pick.now.files))) (sym (files_now c.args.self.now.moments.past c.args.self.now.files.items))
    (subst (λ (l : List FilePick). IfOk c.is_chance_free.result
    (λ free. IsTrue free ↔ IsChanceFree IsChunkOf (files_held c.args.self.now.files.items)
    (picked_dirs (files_held c.args.self.now.files.items) l))) c.as_slice.ensures
    (subst (λ (l : List MemFile). IfOk c.is_chance_free.result (λ free. IsTrue free ↔ IsChanceFree IsChunkOf (files_held l)
    (picked_dirs (files_held l) c.as_slice.result.now))) c.deref.ensures.value c.is_chance_free.ensures))
