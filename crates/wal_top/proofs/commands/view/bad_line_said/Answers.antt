use Rattle.std.proofs.Common.{◌≡◌, ◌∙◌, append_assoc}
use Rattle.wal_top.specs.View.{bad_view_text}
use Rattle.wal_top.proofs.Saying.{ok_map}
use Rattle.wal_top.proofs.commands.view.bad_line_said.Goals as goal

pub returns : goal.returns
unfolding bad_view_text
returns c =
    let text : c.as_str.result.now ≡ bad_view_text c.args.line = c.as_str.ensures.value ∙ c.in_ok-text.ensures.ok ∙ simp append_assoc in
    ok_map c.saying.result c.saying.ensures (λ said p. (p.0, p.1 ∙ text))
