use Rattle.std.proofs.Common.{◌≡◌, List, Some, None, sym, subst, ◌∙◌, refl, arith}
use Rattle.mem_disk.specs.declared.parts.MemFile.{MemFile}
use Rattle.mem_disk.specs.Mem.{files_held, index_at, AreInOrder, ChangesAt}
use Rattle.mem_disk.proofs.Held.{absent, found}
use Rattle.mem_disk.proofs.Removals.{remove_changes, remove_ordered}
use Rattle.mem_disk.proofs.files.remove.Goals as goal

pub returns-in_default-clause-removes : goal.returns-in_default-clause-removes
returns-in_default-clause-removes c =
    let e : index_at c.args.place c.args.files.now.items ≡ None =
    subst (λ (l : List MemFile). index_at c.args.place l ≡ None) c.deref.ensures.value (sym c.first_at.ensures ∙ c.in_default.is) in
    record { here = absent c.args.place c.args.files.now.items e; others = λ q ne. refl }

pub remove-requires : goal.remove-requires
remove-requires c =
    let e : index_at c.args.place c.args.files.now.items ≡ Some c.in-Some.at =
    subst (λ (l : List MemFile). index_at c.args.place l ≡ Some c.in-Some.at) c.deref.ensures.value (sym c.first_at.ensures ∙ c.in-Some.is) in
    let at = found c.args.place c.args.files.now.items c.in-Some.at e in
    omega (arith, at.below)

pub returns-clause-removes : goal.returns-clause-removes
returns-clause-removes c =
    let e : index_at c.args.place c.args.files.now.items ≡ Some c.in-Some.at =
    subst (λ (l : List MemFile). index_at c.args.place l ≡ Some c.in-Some.at) c.deref.ensures.value (sym c.first_at.ensures ∙ c.in-Some.is) in
    subst (λ (l : List MemFile). ChangesAt c.args.place (λ f g. g ≡ None) (files_held c.args.files.now.items) (files_held l)) (sym c.remove.ensures.items)
    (remove_changes c.args.place c.args.files.now.items c.in-Some.at e c.requires.ordered)

pub returns-clause-ordered : goal.returns-clause-ordered
returns-clause-ordered c = subst AreInOrder (sym c.remove.ensures.items) (remove_ordered c.args.files.now.items c.in-Some.at c.requires.ordered)
