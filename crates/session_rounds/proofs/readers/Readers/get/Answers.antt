-- The first session reads, and the others are as they were.
use Rattle.std.proofs.Common.{◌≡◌, ◌∙◌, ◌≤◌, length, Some, sym, subst, arith, List}
use Rattle.std.specs.Prelude.{slice_get, slice_set}
use Rattle.commit_pipeline.specs.declared.standing.Standing.{Standing}
use Rattle.commit_pipeline.specs.Meeting.{StayOn}
use Rattle.session_rounds.specs.Players.{ReadersView}
use Rattle.session_rounds.proofs.FirstReads.{first_here, first_stays, reads_stay}
use Rattle.session_rounds.proofs.readers.Readers.get.Goals as goal

pub invariant_of-self : goal.invariant_of-self
invariant_of-self g c =
    let ss : List Standing = c.self.inside.sessions.items in
    let met : List Standing = c.self.inside.met.value.items in
    let some : 1 ≤ length ss = subst (λ (r : ReadersView). 1 ≤ length r.now) (sym c.self.view_is) c.requires.some in
    let s : Standing = c.index_mut.result.now in
    let s' : Standing = c.get.new.session in
    let here : slice_get ss 0 ≡ Some s = first_here ss s (omega (arith, some)) c.index_mut.ensures.value in
    let stay : StayOn met (slice_set ss 0 s') =
    first_stays met ss s s' c.self.invariant.0 here
    (reads_stay g.N.PipeName.opening c.args.key.now c.get.result s s' c.get.ensures.answers c.get.ensures.err) in
    let count : length (slice_set ss 0 s') ≡ length ss = stay.all ∙ sym c.self.invariant.0.all in
    (stay, count ∙ c.self.invariant.1, omega (arith, count, c.self.invariant.2))
