-- Round by round, with one transcript for all.
use Rattle.script_runner.proofs.RoundsSoFar.{no_round_yet, next_named, round_more}
use Rattle.script_runner.proofs.loads.run_load.Goals as goal

pub loop-round-init : goal.loop-round-init
loop-round-init g c = no_round_yet g.N.PipeName.opening c.args.players c.args.load c.silent-transcript.result c.requires

pub play_load_round-requires-clause-named : goal.play_load_round-requires-clause-named
play_load_round-requires-clause-named g c κs within =
    next_named g.N.PipeName.opening c.args.players c.args.load c.loop-round.load c.next_round.new.self c.in-Some.round
    c.loop-round.players c.silent-transcript.result c.loop-round.transcript c.loop-round.invariant c.in-Some.ensures.some

pub loop-round-preserved : goal.loop-round-preserved
loop-round-preserved g c =
    round_more g.N.PipeName.opening c.args.players c.args.load c.loop-round.load c.next_round.new.self c.in-Some.round
    c.loop-round.players c.silent-transcript.result c.loop-round.transcript c.loop-round.invariant c.in-Some.ensures.some
    c.in_ok-players.players c.play_load_round.new.transcript c.in_ok-players.ensures
