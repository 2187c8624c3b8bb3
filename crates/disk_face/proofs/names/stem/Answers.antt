use Rattle.std.proofs.Common.{sym}
use Rattle.std.specs.Cmp.Lexicographic.{other_text}
use Rattle.disk_face.proofs.Spelling.{cut_off, end_is, read_ascii}
use Rattle.disk_face.proofs.names.stem.Goals as goal

pub returns-in_err-stem : goal.returns-in_err-stem
returns-in_err-stem c bytes ascii is = absurd (other_text _ _ (sym c.in_err-stem.ensures.cases) (end_is c.args.text.now bytes c.args.end.now is))

pub returns : goal.returns
returns c bytes ascii is =
    let stem = cut_off c.args.text.now bytes c.args.end.now c.in_ok-stem.stem.now is c.in_ok-stem.ensures.cases.1 in
    read_ascii c.in_ok-stem.stem.now bytes _ c.from_utf8.result c.ok.result ascii stem c.from_utf8.ensures.cases c.ok.ensures.value
