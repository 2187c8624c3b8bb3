-- Those that are left stand in the order in which they stood.
use Rattle.std.proofs.Common.{◌≡◌, ℕ, ◌<◌, List, length, sym, ap, ◌∙◌, subst}
use Rattle.std.specs.List.{remove}
use Rattle.std.specs.List.Sorted.{IsNonDecreasing}
use Rattle.arena_list.proofs.Marking.{removed_ascends}
use Rattle.arena_list.proofs.marks.Marks.remove.Goals as goal

pub returns-clause-ascends : goal.returns-clause-ascends
returns-clause-ascends c was =
    let place = c.place_of-place.result in
    let is : c.as_slice.result.now ≡ c.args.self.now = c.as_slice.ensures.value ∙ c.self.view_is in
    let less : place < length c.args.self.now = subst (λ (l : List ℕ). place < length l) is c.place_of-place.ensures.0 in
    subst IsNonDecreasing (sym (c.remove.ensures.items ∙ ap (λ (l : List ℕ). remove l place) c.self.view_is))
    (removed_ascends c.args.self.now place less was)
