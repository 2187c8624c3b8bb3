use Rattle.std.proofs.Common.{◌≡◌, [], ◌∷◌, sym, ap, refl, ◌∙◌, arith}
use Rattle.disk_face.specs.Names.{filled}
use Rattle.disk_face.proofs.Spelling.{split_stem}
use Rattle.std.proofs.lemmas.Fmt.{decimal_digit}
use Rattle.disk_face.proofs.names.split.Goals as goal

pub returns-in-Some : goal.returns-in-Some
returns-in-Some c name ok is = let m = split_stem c.args.stem.now name _ ok is c.split_once.ensures.cases in rw c.in-Some.is at m

-- index 0 is read of its one digit
zero_text : 48 ∷ [] ≡ filled 0 0
zero_text = rw (decimal_digit 0 (omega arith)) refl

pub returns-in-None : goal.returns-in-None
returns-in-None c name ok is =
    let m = split_stem c.args.stem.now name _ ok is c.split_once.ensures.cases in
    let whole = rw c.in-None.is at m in
    (whole.0, (0, zero_text ∙ ap (filled 0) (sym whole.1)))
