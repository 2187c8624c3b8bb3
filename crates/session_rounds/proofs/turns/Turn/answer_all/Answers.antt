-- Line by line.
use Rattle.std.specs.Prelude.{◌++◌}
use Rattle.session_rounds.proofs.PlaysTurn.{none_answered, one_more, taken}
use Rattle.session_rounds.proofs.turns.Turn.answer_all.Goals as goal

pub loop-line-init : goal.loop-line-init
loop-line-init g c = none_answered g.N.PipeName.opening c.args.self.now

pub loop-line-preserved : goal.loop-line-preserved
loop-line-preserved g c =
    let opening = g.N.PipeName.opening in
    let own = c.self.inside in
    let line = c.in-Some.line in
    let said = c.in_ok-said.said in
    let left = own.lines.items ++ own.unmade in
    one_more opening c.args.self.now left line said own.told c.note.new.self own.session c.answer.new.session
    (taken opening c.args.self.now c.loop-line.self c.next_line.new.self
    (record { session = own.session; lines = left; told = own.told; starved = own.starved }) c.in_ok-line.field-0 line
    c.loop-line.invariant c.in_ok-line.ensures.some c.in-Some.is c.self.view_is)
    c.in_ok-said.ensures c.in_ok-note.ensures
