-- Round by round.
use Rattle.std.proofs.Common.{◌≡◌, List, [], subst, sym, ◌∙◌, rules}
use Rattle.session_replies.specs.declared.script.Round.{Round}
use Rattle.script_runner.specs.Rounds.{AllowsStalls}
use Rattle.script_runner.proofs.RoundsSoFar.{RoundsSoFar, no_round_yet, stalls_next, next_named, round_more, all_played}
use Rattle.script_runner.proofs.rounds.run_rounds.Goals as goal

pub loop-round-init : goal.loop-round-init
loop-round-init g c =
    let opening = g.N.PipeName.opening in
    let ss = c.args.players in
    let transcript = c.args.transcript.now in
    let all : c.args.rounds ≡ c.from-left.result.items = sym (c.from-left.ensures.0 ∙ c.into_vec.ensures) in
    record {
      so = subst (λ (l : List Round). RoundsSoFar opening ss c.args.rounds l ss transcript transcript) all
          (no_round_yet opening ss c.args.rounds transcript c.requires.named);
      may = subst (AllowsStalls opening) all c.requires.may;
    }

pub play_round-requires-clause-named : goal.play_round-requires-clause-named
play_round-requires-clause-named g c κs within =
    next_named g.N.PipeName.opening c.args.players c.args.rounds c.loop-round.left.items c.pop_front.new.self.items c.in-Some.round
    c.loop-round.players c.args.transcript.now c.loop-round.transcript c.loop-round.invariant.so c.in-Some.ensures.items

pub play_round-requires-clause-may : goal.play_round-requires-clause-may
play_round-requires-clause-may g c κs within =
    let next = stalls_next g.N.PipeName.opening c.loop-round.left.items c.pop_front.new.self.items c.in-Some.round c.loop-round.invariant.may
    c.in-Some.ensures.items in
    next.0

pub loop-round-preserved : goal.loop-round-preserved
loop-round-preserved g c =
    let next = stalls_next g.N.PipeName.opening c.loop-round.left.items c.pop_front.new.self.items c.in-Some.round c.loop-round.invariant.may
    c.in-Some.ensures.items in
    record {
      so = round_more g.N.PipeName.opening c.args.players c.args.rounds c.loop-round.left.items c.pop_front.new.self.items c.in-Some.round
          c.loop-round.players c.args.transcript.now c.loop-round.transcript c.loop-round.invariant.so c.in-Some.ensures.items
          c.in_ok-players.players c.play_round.new.transcript c.in_ok-players.ensures;
      may = next.1;
    }

pub returns : goal.returns
returns g c =
    let none : c.loop-round.left.items ≡ [] = search rules in
    record {
      played = all_played g.N.PipeName.opening c.args.players c.args.rounds c.loop-round.left.items c.loop-round.players
          c.args.transcript.now c.loop-round.transcript c.loop-round.invariant.so none;
    }
