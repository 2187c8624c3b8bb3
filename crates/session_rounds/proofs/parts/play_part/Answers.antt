-- What is lent to the loop comes back whole.
use Rattle.std.specs.Prelude.{◌≡◌, List, ◌++◌, length, take, drop}
use Rattle.std.proofs.Common.{ap, sym, subst, ◌∙◌, rules}
use Rattle.session_rounds.specs.declared.course.Course.{Course}
use Rattle.session_rounds.specs.Turns.{PlayAll}
use Rattle.session_rounds.proofs.Played.{wrote_back}
use Rattle.session_rounds.proofs.parts.play_part.Goals as goal

pub returns : goal.returns
returns g c =
    let opening = g.N.PipeName.opening in
    let part = c.args.part in
    let before : List Course = c.as_mut_slice.result.now in
    let after : List Course = c.play_turns.new.turns in
    let lent : before ≡ part.items = c.as_mut_slice.ensures.value in
    let whole : part.len ≡ length part.items = search rules in
    let back : take part.len (after ++ drop (length after) part.items) ≡ after =
    wrote_back part.len after part.items whole (c.play_turns.ensures.all ∙ ap length lent) in
    subst (λ (ts : List Course). PlayAll opening part.items ts) (sym back)
    (subst (λ (ts : List Course). PlayAll opening ts after) lent c.play_turns.ensures)
