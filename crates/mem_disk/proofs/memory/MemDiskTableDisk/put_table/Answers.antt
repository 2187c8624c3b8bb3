use Rattle.std.proofs.Common.{◌≡◌, ◌++◌, ◌∷◌, [], List, ap, sym, subst, ◌∙◌}
use Rattle.std.specs.Prelude.{None}
use Rattle.disk_face.specs.View.{table}
use Rattle.disk_face.specs.Tables.{IsBeingPut}
use Rattle.mem_disk.specs.declared.parts.MemFile.{MemFile}
use Rattle.mem_disk.specs.Mem.{mem_view}
use Rattle.mem_disk.proofs.Calls.{call_in_two}
use Rattle.mem_disk.proofs.memory.MemDiskTableDisk.put_table.Goals as goal

pub returns-clause-moments : goal.returns-clause-moments
unfolding mem_view
returns-clause-moments c =
    let longer : c.and-self-2.result.past ≡ (c.args.self.now.moments.past ++ c.args.self.now.files.items ∷ []) ++ c.remove.new.files.items ∷ [] =
    c.and-self-2.ensures ∙ ap (λ (l : List (List MemFile)). l ++ c.remove.new.files.items ∷ []) c.and-self.ensures in
    call_in_two c.args.self.now.files.items c.remove.new.files.items c.put_as_planned-answer.new.files.items _ _ c.args.self.now.moments.past
    c.and-self-2.result.past _ _ _ _ _ _ longer (table c.args.upto) (λ f g. g ≡ None) (λ f g. IsBeingPut c.args.bytes.now g) (IsBeingPut c.args.bytes.now)
    (λ g is. subst (IsBeingPut c.args.bytes.now) (sym is) tt) (λ g is. is) c.remove.ensures.removes c.put_as_planned-answer.ensures.putting
