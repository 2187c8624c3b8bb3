-- Part by part.
use Rattle.std.specs.Prelude.{◌≡◌, List, [], ◌∷◌, ◌++◌, length}
use Rattle.std.proofs.Common.{sym, subst, ◌∙◌, rules}
use Rattle.std.proofs.lemmas.List.{nil_from_length}
use Rattle.session_rounds.specs.declared.course.Course.{Course}
use Rattle.session_rounds.specs.Turns.{PlayAll}
use Rattle.session_rounds.specs.Parts.{turns_of_parts}
use Rattle.session_rounds.proofs.Sharing.{one_gathered, none_gathered}
use Rattle.session_rounds.proofs.crew.Crew.gather_parts.Goals as goal

pub returns-then-is_empty : goal.returns-then-is_empty
returns-then-is_empty g c =
    let busy = c.args.busy in
    let counted : busy.len ≡ length busy.items = search rules in
    let none : busy.len ≡ 0 = search rules in
    none_gathered g.N.PipeName.opening busy.items c.args.own.items (nil_from_length busy.items (sym counted ∙ none))

pub loop-hand-preserved : goal.loop-hand-preserved
loop-hand-preserved g c =
    let opening = g.N.PipeName.opening in
    let so = c.loop-hand in
    let part = c.end-hand.result.1.items in
    let appended : c.append.new.self.items ≡ so.all.items ++ part = search rules in
    subst (λ (all : List Course). PlayAll opening (turns_of_parts (so.yielded ++ c.in-Some.hand ∷ [])) all) (sym appended)
    (one_gathered opening so.yielded c.in-Some.hand so.all.items part so.invariant c.end-hand.ensures)
