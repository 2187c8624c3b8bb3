-- A range delete that is put in among the others.
use Rattle.std.proofs.Common.{◌≡◌, ◌≤◌, ◌∷◌, List, length, slice_index_or, subst, sym}
use Rattle.std.proofs.lemmas.List.Edits.{get_or-insert_at}
use Rattle.std.specs.List.Sorted.{IsPermutation}
use Rattle.std.proofs.lemmas.List.Sorted.{IsPermutation-insert}
use Rattle.range_cover.specs.declared.mark.RangeMark.{RangeMark}
use Rattle.range_cover.proofs.mark.insert_mark.Goals as goal

pub returns-clause-added : goal.returns-clause-added
returns-clause-added c =
    subst (λ (l : List RangeMark). IsPermutation (c.args.mark ∷ c.args.marks.now.items) l) (sym c.in_ok-insert.ensures.items)
    (IsPermutation-insert c.args.marks.now.items c.count_below-place.result c.args.mark)

pub returns-clause-at : goal.returns-clause-at
returns-clause-at c other =
    subst (λ (l : List RangeMark). slice_index_or l c.count_below-place.result other ≡ c.args.mark) (sym c.in_ok-insert.ensures.items)
    (get_or-insert_at c.args.marks.now.items c.count_below-place.result c.args.mark other
    (subst (λ (l : List RangeMark). c.count_below-place.result ≤ length l) c.as_slice.ensures.value c.count_below-place.ensures.within))
