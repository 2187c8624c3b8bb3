use Rattle.std.proofs.Common.{rules, ap₂, codes, false, ◌≡◌, ◌∙◌, ◌||◌}
use Rattle.std.proofs.lemmas.Result.{IfOk-weaker}
use Rattle.clap.specs.Walk.{rule_of}
use Rattle.clap.specs.Simple.{with_rule}
use Rattle.command_line.specs.Program.{load_app, word_rule}
use Rattle.command_line.proofs.program.load.Goals as goal

pub returns : goal.returns
unfolding load_app
returns c =
    let seed_is : rule_of c.action-seed.result ≡ word_rule (codes "seed") = search rules in
    let count_is : rule_of c.action-count.result ≡ word_rule (codes "count") = search rules in
    let seed_local : c.action-seed.result.global ≡ false = search rules in
    let count_local : c.action-count.result.global ≡ false = search rules in
    let one = c.in_ok-arg.ensures in
    let one_is = one.shape seed_local ∙ ap₂ with_rule c.new-3.ensures.app seed_is in
    let one_local = one.globals ∙ ap₂ ◌||◌ c.new-3.ensures.local seed_local in
    IfOk-weaker c.arg-2.result _ _
    (λ command adds. (adds.shape count_local ∙ ap₂ with_rule one_is count_is, adds.globals ∙ ap₂ ◌||◌ one_local count_local))
    c.arg-2.ensures
