use Rattle.std.proofs.Common.{ap, ap₂, ◌∙◌, ◌||◌}
use Rattle.std.proofs.lemmas.Result.{IfOk-weaker}
use Rattle.clap.specs.Simple.{App, with_subcommand}
use Rattle.command_line.specs.Program.{program_app}
use Rattle.command_line.proofs.program.program.Goals as goal

pub returns : goal.returns
unfolding program_app
returns c =
    let top = λ (a : App). a.top in
    let one = c.in_ok-subcommand.ensures in
    let one_is = one.shape c.in_ok-replay.ensures.1 ∙ ap₂ with_subcommand c.bare.ensures.0 (ap top c.in_ok-replay.ensures.0) in
    let one_local = one.globals ∙ ap₂ ◌||◌ c.bare.ensures.1 c.in_ok-replay.ensures.1 in
    let two = c.in_ok-subcommand-2.ensures in
    let two_is = two.shape c.in_ok-load.ensures.1 ∙ ap₂ with_subcommand one_is (ap top c.in_ok-load.ensures.0) in
    let two_local = two.globals ∙ ap₂ ◌||◌ one_local c.in_ok-load.ensures.1 in
    let three = c.in_ok-subcommand-3.ensures in
    let three_is = three.shape c.new.ensures.local ∙ ap₂ with_subcommand two_is (ap top c.new.ensures.app) in
    let three_local = three.globals ∙ ap₂ ◌||◌ two_local c.new.ensures.local in
    let four = c.in_ok-subcommand-4.ensures in
    let four_is = four.shape c.new-2.ensures.local ∙ ap₂ with_subcommand three_is (ap top c.new-2.ensures.app) in
    let four_local = four.globals ∙ ap₂ ◌||◌ three_local c.new-2.ensures.local in
    let five = c.in_ok-subcommand-5.ensures in
    let five_is = five.shape c.new-3.ensures.local ∙ ap₂ with_subcommand four_is (ap top c.new-3.ensures.app) in
    let five_local = five.globals ∙ ap₂ ◌||◌ four_local c.new-3.ensures.local in
    let six = c.in_ok-subcommand-6.ensures in
    let six_is = six.shape c.new-4.ensures.local ∙ ap₂ with_subcommand five_is (ap top c.new-4.ensures.app) in
    let six_local = six.globals ∙ ap₂ ◌||◌ five_local c.new-4.ensures.local in
    IfOk-weaker c.subcommand-7.result _ _
    (λ command adds. (
      adds.shape c.new-5.ensures.local ∙ ap₂ with_subcommand six_is (ap top c.new-5.ensures.app),
      adds.globals ∙ ap₂ ◌||◌ six_local c.new-5.ensures.local,
    ))
    c.subcommand-7.ensures
