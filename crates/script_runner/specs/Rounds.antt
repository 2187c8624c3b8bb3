-- What the rounds of a run ask of its opening (docs/formats/program.md, "The run of a script").
use Rattle.std.specs.Prelude.{List}
use Rattle.std.specs.List.{AllByRecursion}
use Rattle.session_replies.specs.declared.script.Round.{Round}
use Rattle.commit_pipeline.specs.Openings.{Opening}
use Rattle.session_rounds.specs.Players.{AllowsPolls}

-- The rounds stall polls only where the opening allows it.
abbrev pub AllowsStalls : Opening → List Round → Type 0
AllowsStalls opening rounds = AllByRecursion (λ (round : Round). AllowsPolls opening round.stalls) rounds
