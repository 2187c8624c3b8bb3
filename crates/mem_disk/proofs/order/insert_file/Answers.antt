use Rattle.std.proofs.Common.{◌≡◌, List, refl, sym, subst, ◌∙◌}
use Rattle.mem_disk.specs.declared.parts.MemFile.{MemFile}
use Rattle.mem_disk.specs.Mem.{files_held, file_of, put, AreInOrder, ChangesAt}
use Rattle.std.specs.Prelude.{Some}
use Rattle.mem_disk.proofs.Puts.{put_changes, put_ordered}
use Rattle.mem_disk.proofs.order.insert_file.Goals as goal

pub returns-clause-ok : goal.returns-clause-ok
returns-clause-ok c =
    let items : c.insert.new.self.items ≡ put c.args.file c.args.files.now.items = c.in_ok-insert.ensures.items
    ∙ sym (c.index_for-at.ensures.at c.args.file refl) in
    subst (λ (l : List MemFile). ChangesAt c.args.file.place (λ f g. g ≡ Some (file_of c.args.file))
    (files_held c.args.files.now.items) (files_held l)) (sym items) (put_changes c.args.file c.args.files.now.items c.requires.absent)

pub returns-clause-ordered : goal.returns-clause-ordered
returns-clause-ordered c up =
    let items : c.insert.new.self.items ≡ put c.args.file c.args.files.now.items = c.in_ok-insert.ensures.items
    ∙ sym (c.index_for-at.ensures.at c.args.file refl) in
    subst AreInOrder (sym items) (put_ordered c.args.file c.args.files.now.items c.requires.absent up)
