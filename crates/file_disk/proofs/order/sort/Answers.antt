use Rattle.std.proofs.Common.{rules, arith}
use Rattle.std.proofs.lemmas.List.Sorted.{answers_always}
use Rattle.disk_face.specs.declared.Listed.{Listed}
use Rattle.file_disk.proofs.Sorts.{not_before}
use Rattle.file_disk.proofs.order.sort.Goals as goal

pub returns-clause-sorted : goal.returns-clause-sorted
returns-clause-sorted c k d below = not_before _ _
    (c.sort_unstable_by_key.ensures.sorted (λ (item : Listed). item.name) (answers_always _ _ _ (λ f a r g h. search rules)) k d (omega arith) below)
