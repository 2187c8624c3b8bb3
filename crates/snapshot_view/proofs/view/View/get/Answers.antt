-- The newer one of the newest version of the key and the newest range delete over it is what the batches answer.
use Rattle.std.proofs.Common.{inr, ℕ, ap, ◌∙◌, subst}
use Rattle.arena_list.specs.Newest.{version_found, FindsNewestOfKey}
use Rattle.batch_repr.specs.Versions.{answer_at}
use Rattle.snapshot_view.specs.Views.{View, IsView}
use Rattle.snapshot_view.proofs.Showing.{get_answers}
use Rattle.snapshot_view.proofs.Holding.{held_there, one_at}
use Rattle.snapshot_view.proofs.view.View.get.Goals as goal

pub returns : goal.returns
returns c at held =
    let view = c.args.self.now in
    let number = c.number_of-at.result in
    let is : IsView view c.self.inside.ranges c.self.inside.marks =
    subst (λ (v : View). IsView v c.self.inside.ranges c.self.inside.marks) c.self.view_is c.self.invariant in
    let newest : FindsNewestOfKey view.versions c.args.key.now number c.newest-found.result =
    subst (λ (v : View). FindsNewestOfKey v.versions c.args.key.now number c.newest-found.result) c.self.view_is c.newest-found.ensures in
    c.value_shown.ensures c.args.key.now
    ∙ get_answers view c.self.inside.ranges c.self.inside.marks is number (inr (held_there view.holds c.args.id.number number c.number_of-at.ensures))
    c.args.key.now (version_found c.args.key.now c.newest-found.result) c.newest.result newest c.newest.ensures
    ∙ ap (λ (n : ℕ). answer_at view.batches n c.args.key.now) (one_at view.holds c.args.id.number number at c.number_of-at.ensures held)
