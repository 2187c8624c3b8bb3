use Rattle.std.proofs.Common.{◌≡◌, ◌∙◌, append_assoc}
use Rattle.wal_top.specs.Replay.{bad_line_text}
use Rattle.wal_top.proofs.Saying.{ok_map}
use Rattle.wal_top.proofs.commands.replay.bad_line_said.Goals as goal

pub returns : goal.returns
unfolding bad_line_text
returns c =
    let text : c.as_str.result.now ≡ bad_line_text c.args.line = c.as_str.ensures.value ∙ c.in_ok-text.ensures.ok ∙ simp append_assoc in
    ok_map c.saying.result c.saying.ensures (λ said p. (p.0, p.1 ∙ text))
