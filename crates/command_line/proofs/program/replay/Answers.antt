use Rattle.std.proofs.Common.{rules, ap₂, false, ◌≡◌, ◌∙◌, ◌||◌}
use Rattle.std.proofs.lemmas.Result.{IfOk-weaker}
use Rattle.clap.specs.Walk.{rule_of}
use Rattle.clap.specs.Simple.{with_rule}
use Rattle.command_line.specs.Program.{replay_app, threshold_rule}
use Rattle.command_line.proofs.program.replay.Goals as goal

pub returns : goal.returns
unfolding replay_app threshold_rule
returns c =
    let is : rule_of c.action-threshold.result ≡ threshold_rule = search rules in
    let local : c.action-threshold.result.global ≡ false = search rules in
    IfOk-weaker c.arg.result _ _
    (λ command adds. (adds.shape local ∙ ap₂ with_rule c.new-2.ensures.app is, adds.globals ∙ ap₂ ◌||◌ c.new-2.ensures.local local))
    c.arg.ensures
