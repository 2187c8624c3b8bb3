use Rattle.std.proofs.Common.{ℕ, ◌++◌, arith, ap, ◌∙◌}
use Rattle.made_load.specs.Load.{last_digits, load_key}
use Rattle.made_load.proofs.LoadMade.{repeat_more}
use Rattle.made_load.proofs.LoadTexts.{text_put}
use Rattle.made_load.proofs.load_lines.put_text.Goals as goal

pub loop-preserved : goal.loop-preserved
loop-preserved c =
    repeat_more c.loop.counter (c.args.text.now.items ++ load_key c.args.index) c.put_digits.new.out c.loop.text.items
    c.extend_from_slice-in-loop.new.self.items c.loop.invariant c.in_ok-extend_from_slice-2.ensures.items

pub returns : goal.returns
returns c =
    text_put c.args.seed c.args.index c.loop.counter c.args.text.now.items c.put_digits.new.out c.loop.text.items (omega arith)
    (c.put_digits.ensures ∙ ap (λ (n : ℕ). last_digits 16 16 n) c.load_number.ensures) c.loop.invariant
