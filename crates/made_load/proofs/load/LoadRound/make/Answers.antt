use Rattle.std.proofs.Common.{◌∙◌}
use Rattle.made_load.specs.Load.{load_lines}
use Rattle.made_load.proofs.LoadMade.{round_made}
use Rattle.made_load.proofs.load.LoadRound.make.Goals as goal

pub returns : goal.returns
returns c =
    let own = c.self.inside in
    round_made c.args.self.now c.new.result c.in_ok-make.field-0 (load_lines own.seed own.from own.count) c.new.ensures
    (c.in_ok-make.ensures ∙ c.of-all.ensures ∙ c.each.ensures) c.self.view_is
